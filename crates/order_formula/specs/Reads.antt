-- The values that a load may take.
use Rattle.std.specs.Prelude.{ℕ, List}
use Rattle.order_formula.specs.declared.read.Candidate.{Candidate}

pub record Read : Type 0 where
  -- the load's event
  pub event : ℕ
  -- the terms of the value that the load takes, and of its cell's initial value
  pub takes : ℕ
  pub start : ℕ
  -- the writes that may be to the load's cell
  pub candidates : List Candidate
