use Rattle.std.proofs.Common.{◌≡◌, ◌==◌, ◌&&◌, false, take}
use Rattle.std.specs.List.{list_any}
use Rattle.order_events.proofs.events.Events.number.Given as goal

abbrev pub invariant-loop-placed : goal.invariant-loop-placed
invariant-loop-placed l = record {
  number : l.number ≡ l.placed-index;
  none : list_any (λ e. e.thread == l.thread && e.it.step == l.step) (take l.placed-index l.self) ≡ false;
}
