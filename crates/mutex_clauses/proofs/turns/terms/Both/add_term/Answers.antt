use Rattle.std.proofs.Common.{◌≡◌, List, ℤ, ap, sym, ◌∙◌, subst, arith, rules, length}
use Rattle.bit_words.specs.Words.{AreWithin}
use Rattle.bit_terms.specs.Terms.{word_at}
use Rattle.bit_terms.proofs.Loops.{at_within}
use Rattle.bit_blast.specs.Reads.{value_clauses}
use Rattle.mutex_clauses.proofs.turns.Loops.{value_full}
use Rattle.mutex_clauses.proofs.turns.terms.Both.add_term.Goals as goal

pub add_value-requires-clause-value : goal.add_value-requires-clause-value
add_value-requires-clause-value c =
    subst (AreWithin c.args.circuit.now.vars) (sym c.word_at-value.ensures)
    (at_within c.args.circuit.now.vars c.args.self.now.terms.now c.place.result
    (omega (arith, c.vars-one.ensures.one, c.vars-one.ensures.vars)) c.requires.terms)

pub add_value-requires-clause-room : goal.add_value-requires-clause-room
add_value-requires-clause-room c =
    let terms : List (List ℤ) = c.args.self.now.terms.now in
    let first : ℤ = c.args.self.now.first in
    let second : ℤ = c.args.self.now.second in
    let word : List ℤ = c.args.word.now in
    let value : List ℤ = c.word_at-value.result in
    let long : length word ≡ 32 = search rules in
    let wide : length value ≡ 32 = search rules in
    let same : value ≡ word_at terms c.args.term = c.word_at-value.ensures ∙ ap (word_at terms) c.place.ensures in
    let all : length (value_clauses first second word (word_at terms c.args.term)) ≡ 64 =
    sym (ap (λ k. length (value_clauses first second word k)) same) ∙ value_full first second 32 word value long wide in
    omega (arith, all, c.requires.room)
