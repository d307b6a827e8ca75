-- What `import` means.
use Rattle.std.specs.Prelude.{◌≡◌, ℕ, List, [], ◌∷◌, Option, Result, Ok, Err, IsTrue}
use Rattle.clap_solve.specs.Imported.{IsFalseOf, values_of}
use Rattle.dimacs_text.specs.cnf_core.Clauses.{satisfies}
use Rattle.memory_models.specs.declared.model.Model.{Model}
use Rattle.command_frame.specs.Inputs.{Texts}
use Rattle.command_frame.specs.Keeps.{Keep}
use Rattle.command_frame.specs.Meaning.{Meaning}
use Rattle.command_inputs.specs.Forms.{IsSchedule}
use Rattle.command_inputs.specs.declared.refusal.Refusal.{Refusal}
use Rattle.command_inputs.specs.command_ends.Outcomes.{Report, command_of}
use Rattle.log_tasks.specs.Tasks.{Reproduces, clauses_of, model_of}
use Rattle.import_command.specs.Calls.{Answered, Import, IsUntaken, inputs_of}
use Rattle.import_command.specs.Lines.{imported_said}
use Rattle.import_command.specs.declared.imported.Imported.{Imported}
use Rattle.import_command.specs.declared.imported.Imported.TheVariants.{Found, False}

module _ (asked : Option Model) {program log answer : List ℕ}
    (a : Answered program log answer) where
  -- the values that the answer gives satisfy the clauses of the log
  abbrev pub IsSatisfying : Type 0
  IsSatisfying =
      IsTrue (satisfies (values_of (clauses_of asked a.task.pair) a.literals)
      (clauses_of asked a.task.pair).clauses)

  -- the clause of this number, from 1, is the first that they make false
  abbrev pub MakesFalse : ℕ → Type 0
  MakesFalse number = IsFalseOf (clauses_of asked a.task.pair) a.literals number

  -- what is made of the answer: a schedule that reproduces the log and its text, or a false clause
  abbrev pub IsMade : Imported → Type 0
  IsMade (Found schedule text) =
      IsSatisfying × (schedule.model ≡ model_of asked a.task.pair)
      × Reproduces asked a.task.pair schedule.moves.items
      × IsSchedule text.items (record { model = schedule.model; moves = schedule.moves.items })
  IsMade (False number) = MakesFalse number

-- what comes of the bytes of the files
abbrev pub ComesTo : Import → Texts → Result Imported Refusal → Type 0
ComesTo call (program ∷ log ∷ answer ∷ []) (Ok x) =
    (a : Answered program log answer) × IsMade call.asked.model a x
ComesTo call (program ∷ log ∷ answer ∷ []) (Err why) = IsUntaken program log answer why
ComesTo call _ outcome = ⊥

-- the text of a schedule is kept as OUT
abbrev pub keeps_of : Import → Imported → List Keep
keeps_of call (Found schedule text) = record { name = call.asked.out; bytes = text.items } ∷ []
keeps_of call (False number) = []

abbrev pub report_of : Import → Report Imported
report_of call = record {
  keeps_of = keeps_of call;
  line_of = λ x. (imported_said x).1;
  status_of = λ x. (imported_said x).0;
}

-- `import`
abbrev pub import_of : Import → Meaning (Result Imported Refusal)
import_of call = command_of (inputs_of call) (ComesTo call) (report_of call)
