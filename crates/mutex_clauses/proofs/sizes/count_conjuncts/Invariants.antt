use Rattle.std.proofs.Common.{◌≡◌, ◌≤◌, length, take}
use Rattle.std.specs.List.{filter}
use Rattle.order_formula.specs.declared.formula.Conjunct.{Conjunct}
use Rattle.mutex_states.specs.InOrder.{is_of_mutex}
use Rattle.mutex_clauses.proofs.sizes.count_conjuncts.Given as goal

abbrev pub invariant-loop-conjunct : goal.invariant-loop-conjunct
invariant-loop-conjunct l = record {
  count : l.count ≡ length (filter (λ (c : Conjunct). is_of_mutex l.mutex c.group) (take l.conjunct-index l.conjuncts));
  few : l.count ≤ l.conjunct-index;
}
