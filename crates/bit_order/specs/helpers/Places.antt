-- Which variables hold the positions of a pair's events.
use Rattle.std.specs.Prelude.{ℕ, ◌+◌, ◌≤◌}
use Rattle.order_formula.specs.declared.order.Pair.{Pair}
use Rattle.bit_order.specs.Layouts.{position_start}

-- the position bits of both events are among the first `vars` variables
pub record PairIsWithin (vars : ℕ) (p : Pair) : Type 0 where
  pub lesser : position_start p.lesser + 7 ≤ vars
  pub greater : position_start p.greater + 7 ≤ vars
