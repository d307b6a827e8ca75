use Rattle.std.proofs.Common.{◌≡◌, map}
use Rattle.std.specs.Prelude.{fold}
use Rattle.order_formula.specs.Orders.{pair_of, with_pair}
use Rattle.bit_order.specs.Comparators.{others}
use Rattle.bit_order.proofs.pairs.ask_others.Given as goal

abbrev pub invariant-loop-other : goal.invariant-loop-other
invariant-loop-other l = record {
  asked : l.order ≡ fold with_pair l.initial.order (map (pair_of l.event) (others l.other l.event));
  events : l.order.events ≡ l.initial.order.events;
}
