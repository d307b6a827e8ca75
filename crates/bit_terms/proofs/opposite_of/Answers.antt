use Rattle.std.proofs.Common.{ℕ, ◌+◌, max, ap, sym, ◌∙◌, arith, get_or, pos}
use Rattle.std.specs.Prelude.{◌-◌}
use Rattle.std.proofs.lemmas.List.{get_or_default}
use Rattle.sym_terms.specs.declared.node.Node.TheVariants.{Constant}
use Rattle.bit_terms.specs.Terms.{are_opposite}
use Rattle.bit_terms.proofs.Found.{found_at, found_none}
use Rattle.bit_terms.proofs.opposite_of.Goals as goal

pub returns-then-are_opposite-clause-place : goal.returns-then-are_opposite-clause-place
returns-then-are_opposite-clause-place c =
    let a : ℕ = c.args.a in
    let b : ℕ = c.args.b in
    let from : ℕ = max a b + 1 in
    let nodes = c.args.nodes.now in
    let place : ℕ = c.loop-place.place in
    let was = c.loop-place.invariant in
    let below = c.loop-place-test.true in
    sym (found_at (λ p. are_opposite c.args.node.now (get_or nodes p (Constant (pos 0)))) from (c.args.count - from) place
    was.behind (omega (arith, was.behind, below)) was.none
    (ap (are_opposite c.args.node.now) (get_or_default nodes place (Constant (pos 0)) c.index-nodes-place.result (omega (arith, below, c.requires.there))
    ∙ sym c.index-nodes-place.is) ∙ sym c.are_opposite.ensures ∙ c.if-are_opposite.true))

pub returns-clause-place : goal.returns-clause-place
returns-clause-place c =
    let a : ℕ = c.args.a in
    let b : ℕ = c.args.b in
    let from : ℕ = max a b + 1 in
    let was = c.loop-place.invariant in
    sym (found_none (λ p. are_opposite c.args.node.now (get_or c.args.nodes.now p (Constant (pos 0)))) from (c.args.count - from)
    (λ k above below. was.none k above (omega (arith, above, below, was.behind, c.loop-place-test.false, c.requires.first, c.requires.second))))
