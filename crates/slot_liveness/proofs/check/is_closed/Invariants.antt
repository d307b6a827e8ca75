use Rattle.std.proofs.Common.{◌≡◌, ℕ, ◌<◌, Some}
use Rattle.std.specs.Prelude.{slice_get}
use Rattle.tc_code.specs.declared.instr.Instr.{Instr}
use Rattle.slot_liveness.specs.helpers.Closed.{IsClosedAt}
use Rattle.slot_liveness.proofs.check.is_closed.Given as goal

abbrev pub invariant-loop-place : goal.invariant-loop-place
invariant-loop-place l = (k : ℕ) (i : Instr) → k < l.place → slice_get l.instrs k ≡ Some i → IsClosedAt l.table i k
