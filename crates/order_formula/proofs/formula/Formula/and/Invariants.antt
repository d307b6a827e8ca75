use Rattle.std.proofs.Common.{◌≡◌, ◌++◌, length}
use Rattle.std.specs.Vec.Iter.{into_iter_items, into_iter_len}
use Rattle.order_formula.proofs.formula.Formula.and.Given as goal

abbrev pub invariant-loop-conjunct : goal.invariant-loop-conjunct
invariant-loop-conjunct l = record {
  all : l.yielded ++ into_iter_items l.conjunct-iterator ≡ into_iter_items l.initial.conjunct-iterator;
  rest : into_iter_len l.conjunct-iterator ≡ length (into_iter_items l.conjunct-iterator);
  both : l.conjuncts.items ≡ l.fn.self ++ l.yielded;
}
