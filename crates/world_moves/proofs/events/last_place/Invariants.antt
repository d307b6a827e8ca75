use Rattle.std.proofs.Common.{◌≡◌, false, take}
use Rattle.std.specs.List.{enumerate_from, list_any}
use Rattle.world_plan.specs.Plan.{is_failure}
use Rattle.world_moves.proofs.events.last_place.Given as goal

abbrev pub invariant-loop-placed : goal.invariant-loop-placed
invariant-loop-placed l = record {
  number : l.number ≡ l.placed-index;
  none : list_any (λ e. is_failure e.1.it.kind) (take l.placed-index (enumerate_from 0 l.events)) ≡ false;
}
