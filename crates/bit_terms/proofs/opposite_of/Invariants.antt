use Rattle.std.proofs.Common.{◌≡◌, ℕ, ◌<◌, ◌≤◌, ◌+◌, max, false, pos, get_or}
use Rattle.sym_terms.specs.declared.node.Node.TheVariants.{Constant}
use Rattle.bit_terms.specs.Terms.{are_opposite}
use Rattle.bit_terms.proofs.opposite_of.Given as goal

abbrev pub invariant-loop-place : goal.invariant-loop-place
invariant-loop-place l = record {
  behind : max l.fn.a l.fn.b + 1 ≤ l.place;
  none : (k : ℕ) → max l.fn.a l.fn.b + 1 ≤ k → k < l.place → are_opposite l.node (get_or l.nodes k (Constant (pos 0))) ≡ false;
}
