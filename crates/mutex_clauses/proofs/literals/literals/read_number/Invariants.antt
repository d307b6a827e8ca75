use Rattle.std.proofs.Common.{◌≡◌, false, take}
use Rattle.std.specs.List.{list_any}
use Rattle.mutex_states.specs.InOrder.{is_read_of}
use Rattle.mutex_clauses.proofs.literals.literals.read_number.Given as goal

abbrev pub invariant-loop-conjunct : goal.invariant-loop-conjunct
invariant-loop-conjunct l = record {
  number : l.number ≡ l.conjunct-index;
  none : list_any (λ c. is_read_of l.event c.body) (take l.conjunct-index l.conjuncts) ≡ false;
}
