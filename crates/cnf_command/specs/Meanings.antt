-- What `cnf` means.
use Rattle.std.specs.Prelude.{◌≡◌, [], ◌∷◌, Result}
use Rattle.clap_solve.specs.Clauses.{model_clauses}
use Rattle.dimacs_text.specs.Texts.{cnf_text}
use Rattle.memory_models.specs.declared.model.Model.{Model}
use Rattle.run_log.specs.Logs.{Log}
use Rattle.tc_code.specs.Code.{Code}
use Rattle.command_frame.specs.Meaning.{Meaning}
use Rattle.command_frame.specs.declared.status.Status.TheVariants.{Done}
use Rattle.command_inputs.specs.declared.refusal.Refusal.{Refusal}
use Rattle.command_inputs.specs.command_ends.Outcomes.{Report, command_of}
use Rattle.log_tasks.specs.Asked.{Asked, ComesTo, inputs_of}
use Rattle.cnf_command.specs.Lines.{clauses_line}
use Rattle.cnf_command.specs.declared.export.Exported.{Exported}

-- the clauses of a log of a code under this model, and their text
pub record AreClauses (code : Code) (log : Log) (model : Model) (x : Exported) : Type 0 where
  pub clauses : x.clauses ≡ model_clauses model code log
  pub text : x.text.items ≡ cnf_text x.clauses

-- the text of the clauses is kept, and their line put
abbrev pub report_of : Asked → Report Exported
report_of call = record {
  keeps_of = λ x. record { name = call.out; bytes = x.text.items } ∷ [];
  line_of = λ x. clauses_line x.clauses;
  status_of = λ _. Done;
}

-- `cnf`
abbrev pub cnf_of : Asked → Meaning (Result Exported Refusal)
cnf_of call =
    command_of (inputs_of call) (ComesTo call.model AreClauses) (report_of call)
