use Rattle.std.proofs.Common.{◌≡◌, ◌==◌, false, take}
use Rattle.std.specs.List.{enumerate_from, list_any}
use Rattle.order_formula.specs.Worlds.{position}
use Rattle.world_moves.proofs.events.event_at.Given as goal

abbrev pub invariant-loop-placed : goal.invariant-loop-placed
invariant-loop-placed l = record {
  number : l.number ≡ l.placed-index;
  none : list_any (λ e. position l.world e.0 == l.position) (take l.placed-index (enumerate_from 0 l.events)) ≡ false;
}
