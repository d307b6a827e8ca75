use Rattle.std.proofs.Common.{◌≡◌, take}
use Rattle.std.specs.Prelude.{fold}
use Rattle.order_formula.specs.Orders.{Grows, with_case}
use Rattle.order_formula.proofs.order.Order.ask_cases.Given as goal

abbrev pub invariant-loop-case : goal.invariant-loop-case
invariant-loop-case l = record {
  asked : l.self ≡ fold with_case l.fn.self (take l.case-index l.cases);
  grows : Grows l.fn.self l.self;
}
