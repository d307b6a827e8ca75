use Rattle.std.proofs.Common.{◌≡◌, ◌++◌, map, take}
use Rattle.std.specs.Prelude.{filter}
use Rattle.std.specs.List.{enumerate_from}
use Rattle.mutex_states.specs.InOrder.{is_of_mutex}
use Rattle.mutex_clauses.specs.in_order.helpers.Listed.{root}
use Rattle.mutex_clauses.proofs.in_order.literals.push_apart.Given as goal

abbrev pub invariant-loop-number : goal.invariant-loop-number
invariant-loop-number l =
    l.literals.items
    ≡ l.fn.literals.items
    ++ map (λ p. root l.draft.paths.now l.draft.layout.now l.draft.conjuncts.now l.draft.roots.now p.0)
    (filter (λ p. is_of_mutex l.mutex p.1.group) (enumerate_from 0 (take l.number l.conjunct-items)))
