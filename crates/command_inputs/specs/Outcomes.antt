-- Outcomes of commands: a result, or a refusal of an input.
use Rattle.std.specs.Prelude.{ℕ, List, Result, Ok, Err}
use Rattle.command_frame.specs.declared.status.Status.{Status}
use Rattle.command_inputs.specs.Refusals.{refusal_said}
use Rattle.command_inputs.specs.declared.refusal.Refusal.{Refusal}

-- the text of a result, or the line of a refusal
abbrev pub outcome_text : {R : Type 0} → (R → List ℕ) → Result R Refusal → List ℕ
outcome_text text_of (Ok result) = text_of result
outcome_text text_of (Err refusal) = (refusal_said refusal).1

-- the status of a result, or of a refusal
abbrev pub outcome_status : {R : Type 0} → (R → Status) → Result R Refusal → Status
outcome_status status_of (Ok result) = status_of result
outcome_status status_of (Err refusal) = (refusal_said refusal).0
