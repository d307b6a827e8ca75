-- What a command means.
use Rattle.std.specs.Prelude.{ℕ, List}
use Rattle.command_frame.specs.Inputs.{Texts, Wanted}
use Rattle.command_frame.specs.Keeps.{Keep}
use Rattle.command_frame.specs.declared.status.Status.{Status}

-- a command whose outcomes, both results and refusals, have this type
pub record Meaning (A : Type 0) : Type 1 where
  -- its inputs, in the order in which they are read
  pub inputs : List Wanted
  -- this is an outcome for these bytes of its inputs, none of which are too long
  pub ComesOf : Texts → A → Type 0
  -- the keeps of an outcome, in this order
  pub keeps_of : A → List Keep
  -- the text is one for this outcome
  pub IsTextOf : A → List ℕ → Type 0
  -- the status of an outcome
  pub status_of : A → Status
