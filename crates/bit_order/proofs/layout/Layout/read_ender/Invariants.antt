use Rattle.std.proofs.Common.{◌≡◌, ℕ, ◌<◌, false}
use Rattle.cnf_core.specs.Clauses.{value_in}
use Rattle.bit_order.specs.Readings.{is_made}
use Rattle.bit_order.proofs.layout.Layout.read_ender.Given as goal

abbrev pub invariant-loop-number : goal.invariant-loop-number
invariant-loop-number l = (k : ℕ) → k < l.number → is_made l.self (value_in l.assignment) l.sleep k ≡ false
