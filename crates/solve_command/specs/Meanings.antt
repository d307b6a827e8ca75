-- What `solve` means.
use Rattle.std.specs.Prelude.{ℕ, List, [], ◌∷◌, Result}
use Rattle.clap_solve.specs.Clauses.{bound_of}
use Rattle.clap_solve.specs.Solved.{IsAnswer}
use Rattle.schedule_file.specs.declared.schedule.Schedule.{Schedule}
use Rattle.clap_solve.specs.cdcl_core.declared.answer.Answer.{Answer}
use Rattle.clap_solve.specs.cdcl_core.declared.answer.Answer.TheVariants.{Found, Impossible, Spent}
use Rattle.memory_models.specs.declared.model.Model.{Model}
use Rattle.run_log.specs.Logs.{Log}
use Rattle.store_buffers.specs.Buffers.{buffer_of}
use Rattle.tc_code.specs.Code.{Code}
use Rattle.command_frame.specs.Meaning.{Meaning}
use Rattle.command_frame.specs.declared.status.Status.{Status}
use Rattle.command_frame.specs.declared.status.Status.TheVariants.{Done, Fails, Open}
use Rattle.command_inputs.specs.declared.refusal.Refusal.{Refusal}
use Rattle.log_tasks.specs.Lines.{impossible_line, moves_line, spent_line}
use Rattle.command_inputs.specs.command_ends.Outcomes.{Report, command_of}
use Rattle.log_tasks.specs.Asked.{ComesTo, inputs_of}
use Rattle.log_tasks.specs.Texts.{IsTextOf}
use Rattle.solve_command.specs.Calls.{Solve}
use Rattle.solve_command.specs.declared.solution.Solution.{Solution}

-- the status and the line of what a search with this budget finds
abbrev pub answer_said : (budget : ℕ) → Answer Schedule → Status × List ℕ
answer_said budget (Found schedule) = (Done, moves_line schedule.moves.items)
answer_said budget (Impossible lines) = (Fails, impossible_line lines)
answer_said budget (Spent lines) = (Open, spent_line budget)

-- what a search under this model finds in a log of a code, and its text
pub record IsFound (budget : ℕ) (code : Code) (log : Log) (model : Model)
    (x : Solution) : Type 0 where
  pub answer : IsAnswer (buffer_of model) model (bound_of model) code log budget x.answer
  pub text : IsTextOf model x.answer x.text.items

-- what is done with a solution: its text is kept as OUT
abbrev pub report_of : Solve → Report Solution
report_of call = record {
  keeps_of = λ x. record { name = call.asked.out; bytes = x.text.items } ∷ [];
  line_of = λ x. (answer_said call.budget x.answer).1;
  status_of = λ x. (answer_said call.budget x.answer).0;
}

-- `solve`
abbrev pub solve_of : Solve → Meaning (Result Solution Refusal)
solve_of call =
    command_of (inputs_of call.asked) (ComesTo call.asked.model (IsFound call.budget))
    (report_of call)
