-- Words of private contracts: what is made of the literals of an answer.
use Rattle.std.specs.Prelude.{ℕ, ℤ, List}
use Rattle.clap_solve.specs.Clauses.{bound_of}
use Rattle.clap_solve.specs.Imported.{IsImported}
use Rattle.clap_solve.specs.declared.imported.Imported.{Imported as Taken}
use Rattle.clap_solve.specs.declared.imported.Imported.TheVariants as taken
use Rattle.dimacs_text.specs.Faults.{BreaksAt}
use Rattle.memory_models.specs.declared.model.Model.{Model}
use Rattle.run_log.specs.Logs.{Log}
use Rattle.store_buffers.specs.Buffers.{buffer_of}
use Rattle.tc_code.specs.Code.{Code}
use Rattle.command_inputs.specs.Forms.{IsSchedule}
use Rattle.command_inputs.specs.declared.refusal.Refusal.{Refusal}
use Rattle.command_inputs.specs.declared.refusal.Refusal.TheVariants.{Answer}
use Rattle.import_command.specs.declared.imported.Imported.{Imported}
use Rattle.import_command.specs.declared.imported.Imported.TheVariants.{Found, False}

-- the text isn't an answer from this line on
abbrev pub IsUnanswered : (answer : List ℕ) → Refusal → Type 0
IsUnanswered answer (Answer line) = BreaksAt answer line
IsUnanswered answer _ = ⊥

-- what literals give, without its text
abbrev pub taken_of : Imported → Taken
taken_of (Found schedule text) = taken.Found schedule
taken_of (False number) = taken.False number

-- the text is that of the schedule
abbrev pub HasItsText : Imported → Type 0
HasItsText (Found schedule text) =
    IsSchedule text.items (record { model = schedule.model; moves = schedule.moves.items })
HasItsText (False number) = Unit {0}

-- what the literals give under the memory model
abbrev pub IsTakenUnder : Model → Code → Log → List ℤ → Taken → Type 0
IsTakenUnder model code log literals x =
    IsImported (buffer_of model) model (bound_of model) code log literals x
