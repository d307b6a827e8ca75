use Rattle.std.proofs.Common.{◌≡◌, ◌++◌, length}
use Rattle.std.specs.Vec.Iter.{into_iter_items, into_iter_len}
use Rattle.order_formula.specs.Orders.{Grows, with_formula}
use Rattle.order_events.proofs.formula.formula_of.Given as goal

abbrev pub invariant-loop-conjunct : goal.invariant-loop-conjunct
invariant-loop-conjunct l = record {
  all : l.yielded ++ into_iter_items l.conjunct-iterator ≡ into_iter_items l.initial.conjunct-iterator;
  rest : into_iter_len l.conjunct-iterator ≡ length (into_iter_items l.conjunct-iterator);
  formula : l.formula ≡ l.yielded;
  asked : l.order ≡ with_formula l.fn.order l.yielded;
  grows : Grows l.fn.order l.order;
}
