use Rattle.std.proofs.Common.{◌≡◌, take}
use Rattle.order_formula.specs.Orders.{Grows, with_case}
use Rattle.order_formula.proofs.order.Order.ask_literals.Given as goal

abbrev pub invariant-loop-literal : goal.invariant-loop-literal
invariant-loop-literal l = record {
  asked : l.self ≡ with_case l.fn.self (take l.literal-index l.literals);
  grows : Grows l.fn.self l.self;
}
