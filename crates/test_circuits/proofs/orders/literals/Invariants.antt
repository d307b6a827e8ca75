use Rattle.std.proofs.Common.{◌≡◌, ℕ}
use Rattle.std.specs.List.{All}
use Rattle.order_formula.specs.Formulas.{LiteralIsOf}
use Rattle.order_formula.specs.Orders.{Order, LiteralIsIn}
use Rattle.test_circuits.proofs.orders.literals.Given as goal

abbrev pub invariant-loop-first : goal.invariant-loop-first
invariant-loop-first l = record {
  of : (n : ℕ) → All (LiteralIsOf n) l.literals.items;
  within : (o : Order) → o.events ≡ 3 → All (LiteralIsIn o) l.literals.items;
}
