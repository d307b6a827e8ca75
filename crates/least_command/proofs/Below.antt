-- The number of switches that a refutation names: one fewer than found.
use Rattle.std.proofs.Common.{◌≤◌, ℕ, zero, suc, arith, Some, None, List}
use Rattle.run_log.specs.tc_base.Buffers.{BufferOps}
use Rattle.run_log.specs.Logs.{Log}
use Rattle.memory_models.specs.declared.model.Model.{Model}
use Rattle.tc_code.specs.Code.{Code}
use Rattle.store_buffers.specs.Pending.{Binding}
use Rattle.refute_check.specs.declared.line.Line.{Line}
use Rattle.least_switch.specs.Least.{IsLeastAnswer, IsShown, IsSpentBelow}
use Rattle.least_switch.specs.declared.answer.Least.{Least}
use Rattle.least_switch.specs.declared.answer.Least.TheVariants.{Found, Impossible, Spent, SpentAt}
use Rattle.least_command.specs.helpers.Below.{HasByteBelow}

module _ {B : Type 0} (ops : BufferOps B) (model : Model) (bound : Binding) (code : Code) (log : Log) (budget : ℕ) where
  shown_some : (count : ℕ) (lines : List Line) → IsShown ops model bound code log count (Some lines) → 1 ≤ count
  shown_some zero lines h = absurd h
  shown_some (suc fewer) lines h = omega arith

  spent_some : (count : ℕ) (lines : List Line) → IsSpentBelow ops model bound code log budget count lines → 1 ≤ count
  spent_some zero lines h = absurd h
  spent_some (suc fewer) lines h = omega arith

  pub has_byte_below : (x : Least) → IsLeastAnswer ops model bound code log budget x → HasByteBelow x
  has_byte_below (Found schedule count None) h = tt
  has_byte_below (Found schedule count (Some lines)) h = (shown_some count lines h.2, h.0.few)
  has_byte_below (Impossible lines) h = tt
  has_byte_below (Spent lines) h = tt
  has_byte_below (SpentAt schedule count lines) h = (spent_some count lines h.1, h.0.few)
