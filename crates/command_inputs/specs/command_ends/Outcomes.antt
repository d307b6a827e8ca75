-- Commands that come to a result or refuse an input.
use Rattle.std.specs.Prelude.{◌≡◌, ℕ, List, [], Result, Ok, Err}
use Rattle.command_inputs.specs.command_frame.Inputs.{Texts, Wanted}
use Rattle.command_inputs.specs.command_frame.Keeps.{Keep}
use Rattle.command_inputs.specs.command_frame.Meaning.{Meaning}
use Rattle.command_inputs.specs.command_frame.declared.status.Status.{Status}
use Rattle.command_inputs.specs.Outcomes.{outcome_status, outcome_text}
use Rattle.command_inputs.specs.declared.refusal.Refusal.{Refusal}

-- what a command does with a result: it keeps these, puts this line, and ends with this status
pub record Report (R : Type 0) : Type 0 where
  pub keeps_of : R → List Keep
  pub line_of : R → List ℕ
  pub status_of : R → Status

-- the keeps of an outcome: a refusal has none
abbrev pub outcome_keeps : {R : Type 0} → (R → List Keep) → Result R Refusal → List Keep
outcome_keeps keeps_of (Ok result) = keeps_of result
outcome_keeps keeps_of (Err refusal) = []

-- a command with these inputs, outcomes and reports
abbrev pub command_of : {R : Type 0} → List Wanted → (Texts → Result R Refusal → Type 0) → Report R
    → Meaning (Result R Refusal)
command_of inputs ComesOf report = record {
  inputs = inputs;
  ComesOf = ComesOf;
  keeps_of = outcome_keeps report.keeps_of;
  IsTextOf = λ outcome text. text ≡ outcome_text report.line_of outcome;
  status_of = outcome_status report.status_of;
}
