use Rattle.std.proofs.Common.{◌≡◌, ℕ, ◌<◌, [], Some}
use Rattle.std.specs.Prelude.{slice_get, slice_index_or}
use Rattle.tc_code.specs.declared.code.Func.{Func}
use Rattle.slot_liveness.specs.helpers.Closed.{IsClosedIn}
use Rattle.slot_liveness.proofs.check.are_closed.Given as goal

abbrev pub invariant-loop-function : goal.invariant-loop-function
invariant-loop-function l =
    (f : ℕ) (g : Func) → f < l.function → slice_get l.code.functions f ≡ Some g → IsClosedIn (slice_index_or l.tables f []) g.instrs
