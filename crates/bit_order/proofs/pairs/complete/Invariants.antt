use Rattle.std.proofs.Common.{◌≡◌, take}
use Rattle.bit_order.specs.Comparators.{completed}
use Rattle.bit_order.proofs.pairs.complete.Given as goal

abbrev pub invariant-loop-event : goal.invariant-loop-event
invariant-loop-event l = record {
  asked : l.order ≡ completed l.initial.order (take l.event-index l.events);
  events : l.order.events ≡ l.initial.order.events;
}
