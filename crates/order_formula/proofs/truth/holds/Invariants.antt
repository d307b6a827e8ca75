use Rattle.std.proofs.Common.{◌≡◌, take, true}
use Rattle.order_formula.specs.Truth.{Serves, holds_at}
use Rattle.order_formula.proofs.truth.holds.Given as goal

abbrev pub invariant-loop-conjunct : goal.invariant-loop-conjunct
invariant-loop-conjunct l = record {
  hold : holds_at l.terms l.world (take l.conjunct-index l.conjunct-items) ≡ true;
  table : Serves l.terms l.world l.values;
}
