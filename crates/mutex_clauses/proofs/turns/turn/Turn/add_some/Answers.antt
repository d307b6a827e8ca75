use Rattle.std.proofs.Common.{◌≡◌, ℕ, ◌<◌, ◌≤◌, List, ◌++◌, ℤ, ap, sym, ◌∙◌, subst, arith}
use Rattle.std.proofs.lemmas.List.Elements.{All-append}
use Rattle.cnf_core.specs.Clauses.{var_of}
use Rattle.bit_words.specs.Words.{AreWithin}
use Rattle.mutex_clauses.specs.turns.Turns.{among, is_open}
use Rattle.mutex_clauses.proofs.turns.Among.{among_within}
use Rattle.mutex_clauses.proofs.turns.turn.Turn.add_some.Goals as goal

pub add_any-requires-clause-others : goal.add_any-requires-clause-others
add_any-requires-clause-others c =
    let t = c.args.self.now in
    let n : ℕ = c.args.circuit.now.vars in
    let shaped : List ℤ = t.shaped.now in
    let among_open : List ℤ = among t.ranked.now is_open c.args.steps.now in
    let one : 0 < n = omega (arith, c.vars-one.ensures.one, c.vars-one.ensures.vars) in
    let is : c.as_slice-2.result.now ≡ shaped ++ among_open =
    c.as_slice-2.ensures.value ∙ c.in_ok-extend_from_slice-2.ensures.items
    ∙ ap (λ ls. ls ++ c.as_slice.result.now) (c.in_ok-extend_from_slice.ensures.items ∙ ap (λ ls. ls ++ shaped) c.new-others.ensures.items)
    ∙ ap (λ ls. shaped ++ ls) (c.as_slice.ensures.value ∙ c.in_ok-open.ensures) in
    subst (AreWithin n) (sym is)
    (All-append (λ l. var_of l ≤ n) shaped among_open c.requires.within.shaped
    (among_within n t.ranked.now is_open c.args.steps.now one c.requires.within.ranked))
