-- The literals of levels and their clauses, one by one.
use Rattle.std.proofs.Common.{ℕ, ◌≤◌, ◌==◌, Bool, true, false, cond, List, Option, Some, None, arith}
use Rattle.bit_gates.specs.Folded.{constant}
use Rattle.cnf_core.specs.Clauses.{var_of}
use Rattle.bit_order.specs.Comparators.{before_literal}
use Rattle.bit_order.specs.Layouts.{Layout}
use Rattle.switch_order.specs.Levels.{counts_literal}
use Rattle.switch_order.specs.helpers.Within.{AreBeforesWithin}

-- the literal that an event counts is over the first variables
pub counts_within : (y : Layout) (threads : List ℕ) (failing : Option ℕ) (event vars : ℕ) → 1 ≤ vars → AreBeforesWithin vars y
    → var_of (counts_literal y threads failing event) ≤ vars
counts_within y threads None event vars one within = omega (arith, one)
counts_within y threads (Some last) event vars one within = by (event == last)
  where
    by : (b : Bool) → var_of (cond b (constant true) (before_literal y event last)) ≤ vars
    by true = omega (arith, one)
    by false = within event last
