-- What `replay` means.
use Rattle.std.specs.Prelude.{◌≡◌, ℕ, List, [], ◌∷◌, Result}
use Rattle.schedule_replay.specs.declared.verdict.Verdict.{Verdict}
use Rattle.command_frame.specs.Inputs.{Wanted, Whole}
use Rattle.command_frame.specs.Meaning.{Meaning}
use Rattle.command_inputs.specs.Limits.{log_limit, program_limit, schedule_limit}
use Rattle.command_inputs.specs.Outcomes.{outcome_status, outcome_text}
use Rattle.command_inputs.specs.declared.refusal.Refusal.{Refusal}
use Rattle.replay_command.specs.Causes.{Replays}
use Rattle.replay_command.specs.Lines.{verdict_said}

-- the three files, by their names
abbrev pub files_of : (program log schedule : List ℕ) → List Wanted
files_of program log schedule =
    Whole program_limit program ∷ Whole log_limit log ∷ Whole schedule_limit schedule ∷ []

-- `replay PROGRAM LOG SCHEDULE`
abbrev pub replay_of : (program log schedule : List ℕ) → Meaning (Result Verdict Refusal)
replay_of program log schedule = record {
  inputs = files_of program log schedule;
  ComesOf = Replays;
  keeps_of = λ _. [];
  IsTextOf = λ outcome text. text ≡ outcome_text (λ v. (verdict_said v).1) outcome;
  status_of = outcome_status (λ v. (verdict_said v).0);
}
