-- What `solve --least` means.
use Rattle.schedule_file.specs.declared.schedule.Schedule.{Schedule}
use Rattle.std.specs.Prelude.{ℕ, ◌-◌, List, ◌++◌, length, codes, Option, Some, None, option_map, Result}
use Rattle.std.specs.Fmt.{decimal}
use Rattle.least_switch.specs.clap_solve.Clauses.{bound_of}
use Rattle.least_switch.specs.cdcl_core.declared.answer.Answer.{Answer}
use Rattle.least_switch.specs.cdcl_core.declared.answer.Answer.TheVariants as answer
use Rattle.least_switch.specs.Least.{IsLeastAnswer}
use Rattle.least_switch.specs.declared.answer.Least.{Least as Minimum}
use Rattle.least_switch.specs.declared.answer.Least.TheVariants.{Found, Impossible, Spent, SpentAt}
use Rattle.memory_models.specs.declared.model.Model.{Model}
use Rattle.refute_check.specs.declared.head.Head.{Head}
use Rattle.run_log.specs.Logs.{Log}
use Rattle.store_buffers.specs.Buffers.{buffer_of}
use Rattle.tc_code.specs.Code.{Code}
use Rattle.command_frame.specs.Meaning.{Meaning}
use Rattle.command_frame.specs.declared.status.Status.{Status}
use Rattle.command_frame.specs.declared.status.Status.TheVariants as status
use Rattle.command_inputs.specs.declared.refusal.Refusal.{Refusal}
use Rattle.log_tasks.specs.Lines.{impossible_line, spent_line}
use Rattle.command_inputs.specs.command_ends.Outcomes.{Report, command_of}
use Rattle.log_tasks.specs.Asked.{ComesTo, inputs_of}
use Rattle.log_tasks.specs.Texts.{IsRefutation, IsTextOf}
use Rattle.least_command.specs.Calls.{Least, keeps_of}
use Rattle.least_command.specs.declared.solution.Solution.{Solution}

-- the status and the line of what searches with this budget find
abbrev pub least_said : (budget : ℕ) → Minimum → Status × List ℕ
least_said budget (Found schedule count _) = (
  status.Done,
  codes "schedule "
      ++ (decimal (length schedule.moves.items)
      ++ (codes " moves, " ++ (decimal count ++ codes " switches\n"))),
)
least_said budget (Impossible lines) = (status.Fails, impossible_line lines)
least_said budget (Spent lines) = (status.Open, spent_line budget)
least_said budget (SpentAt _ count _) = (
  status.Open,
  codes "spent after "
      ++ (decimal budget ++ (codes " conflicts, " ++ (decimal count ++ codes " switches\n"))),
)

-- what is found, as `solve` without `--least` gives it
abbrev pub answer_in : Minimum → Answer Schedule
answer_in (Found schedule _ _) = answer.Found schedule
answer_in (Impossible lines) = answer.Impossible lines
answer_in (Spent lines) = answer.Spent lines
answer_in (SpentAt schedule _ _) = answer.Found schedule

-- the header of a refutation of schedules with fewer than `count` switches
abbrev pub head_below : Model → (count : ℕ) → Head
head_below model count = record { model = model; switches = Some (count - 1) }

-- the second text is that of the refutation of fewer switches, if there is one
abbrev pub IsSecond : Model → Minimum → Option (List ℕ) → Type 0
IsSecond model (Found _ count (Some lines)) (Some text) =
    IsRefutation text (head_below model count) lines
IsSecond model (Found _ _ None) None = Unit {0}
IsSecond model (Impossible _) None = Unit {0}
IsSecond model (Spent _) None = Unit {0}
IsSecond model (SpentAt _ count lines) (Some text) =
    IsRefutation text (head_below model count) lines
IsSecond model _ _ = ⊥

-- the second text
abbrev pub second_of : Solution → Option (List ℕ)
second_of x = option_map (λ text. text.items) x.refutation

-- what searches under this model find in a log of a code, and its texts
pub record IsFound (budget : ℕ) (code : Code) (log : Log) (model : Model)
    (x : Solution) : Type 0 where
  pub least : IsLeastAnswer (buffer_of model) model (bound_of model) code log budget x.least
  pub first : IsTextOf model (answer_in x.least) x.out.items
  pub second : IsSecond model x.least (second_of x)

-- what is done with a solution: its texts are kept
abbrev pub report_of : Least → Report Solution
report_of call = record {
  keeps_of = λ x. keeps_of call x.out.items (second_of x);
  line_of = λ x. (least_said call.budget x.least).1;
  status_of = λ x. (least_said call.budget x.least).0;
}

-- `solve --least`
abbrev pub least_of : Least → Meaning (Result Solution Refusal)
least_of call =
    command_of (inputs_of call.asked) (ComesTo call.asked.model (IsFound call.budget))
    (report_of call)
