use Rattle.std.proofs.Common.{◌∙◌, ◌++◌, ap, map, arith, List, ℕ}
use Rattle.std.specs.Prelude.{filter}
use Rattle.std.specs.List.{enumerate_from}
use Rattle.std.proofs.lemmas.List.{take_all}
use Rattle.order_formula.specs.declared.formula.Conjunct.{Conjunct}
use Rattle.mutex_states.specs.InOrder.{is_of_mutex}
use Rattle.mutex_clauses.specs.in_order.helpers.Listed.{root}
use Rattle.mutex_clauses.proofs.in_order.Listing.{sift_more_placed}
use Rattle.mutex_clauses.proofs.in_order.literals.push_apart.Goals as goal

pub loop-number-preserved : goal.loop-number-preserved
loop-number-preserved c =
    let t = c.args.draft.now in
    sift_more_placed (λ (p : ℕ × Conjunct). is_of_mutex c.args.mutex p.1.group)
    (λ (p : ℕ × Conjunct). root t.paths.now t.layout.now t.conjuncts.now t.roots.now p.0) t.conjuncts.now c.loop-number.number
    c.conjunct-item.result
    c.args.literals.now.items c.loop-number.literals.items c.push_root.new.literals.items c.loop-number-test.true c.conjunct-item.is
    c.loop-number.invariant
    c.in_ok-push_root.ensures

pub returns : goal.returns
returns c =
    let t = c.args.draft.now in
    c.loop-number.invariant
    ∙ ap
    (λ (cs : List Conjunct). c.args.literals.now.items
    ++ map (λ (p : ℕ × Conjunct). root t.paths.now t.layout.now t.conjuncts.now t.roots.now p.0)
    (filter (λ (p : ℕ × Conjunct). is_of_mutex c.args.mutex p.1.group) (enumerate_from 0 cs)))
    (take_all c.loop-number.number t.conjuncts.now (omega (arith, c.loop-number-test.false)))
