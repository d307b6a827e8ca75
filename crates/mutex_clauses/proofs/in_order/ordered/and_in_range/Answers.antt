use Rattle.std.proofs.Common.{◌≡◌, ◌∙◌, ℕ, ◌<◌, ◌≤◌, ◌^◌, ℤ, ap, sym, subst, arith, rules, FitsSigned, w32}
use Rattle.std.specs.Prelude.{false}
use Rattle.std.proofs.lemmas.Int.{to_z-of_z}
use Rattle.std.proofs.lemmas.Result.{IfOk-weaker}
use Rattle.cnf_core.specs.Clauses.{var_of}
use Rattle.bit_gates.specs.Folded.{Made, conjunction, constant, kept}
use Rattle.bit_words.specs.Words.{AreWithin}
use Rattle.bit_terms.specs.Terms.{constant_word, word_at}
use Rattle.bit_terms.proofs.Loops.{at_within, constant_within}
use Rattle.mutex_clauses.specs.in_order.helpers.Listed.{with_range}
use Rattle.mutex_clauses.proofs.in_order.Same.{range_made, signed_word}
use Rattle.mutex_clauses.proofs.in_order.ordered.and_in_range.Goals as goal

one_is : (n : ℕ) (l : ℤ) → l ≡ constant false → var_of l ≤ n → 0 < n
one_is n l is within = let here : var_of (constant false) ≤ n = subst (λ k. var_of k ≤ n) is within in omega (arith, here)

pub compare-requires-clause-first : goal.compare-requires-clause-first
compare-requires-clause-first c =
    subst (AreWithin c.args.circuit.now.vars) (sym c.word_at-word.ensures)
    (at_within c.args.circuit.now.vars c.args.words.now c.place.result
    (one_is c.args.circuit.now.vars c.constant-low.result c.constant-low.ensures.literal c.constant-low.ensures.within) c.requires.words)

pub compare-requires-clause-second : goal.compare-requires-clause-second
compare-requires-clause-second c =
    subst (AreWithin c.args.circuit.now.vars) (sym c.constant_word.ensures)
    (constant_within c.args.circuit.now _
    (one_is c.args.circuit.now.vars c.constant-low.result c.constant-low.ensures.literal c.constant-low.ensures.within))

pub returns-in_ok-below-in-Element-clause-literal : goal.returns-in_ok-below-in-Element-clause-literal
returns-in_ok-below-in-Element-clause-literal c =
    let low : c.in-Element.length < 2 ^ 32 = search rules in
    let word = c.word_at-word.ensures ∙ ap (word_at c.args.words.now) c.place.ensures in
    let fits : FitsSigned w32 c.cast_signed.result = search rules in
    let bound = c.constant_word.ensures ∙ ap constant_word (to_z-of_z w32 c.cast_signed.result fits ∙ c.cast_signed.ensures)
    ∙ signed_word c.in-Element.length low in
    let made = range_made c.args.words.now c.args.circuit.now c.compare.new.circuit c.args.all c.constant-low.result
    c.in_ok-below-in-Element.below
    c.word_at-word.result c.constant_word.result c.args.cell c.in-Element.first c.in-Element.length c.in-Element.index c.in-Element.is
    c.constant-low.ensures.literal word bound c.in_ok-below-in-Element.ensures.formula c.in_ok-below-in-Element.ensures.literal in
    IfOk-weaker c.and.result (λ l. l ≡ (conjunction c.compare.new.circuit c.args.all c.in_ok-below-in-Element.below).literal)
    (λ l. l ≡ (with_range c.args.words.now (kept c.args.circuit.now c.args.all) c.args.cell).literal)
    (λ l is. is ∙ ap (λ (k : Made). k.literal) made)
    c.and.ensures.literal

pub returns-in_ok-below-in-Element-clause-formula : goal.returns-in_ok-below-in-Element-clause-formula
returns-in_ok-below-in-Element-clause-formula c =
    let low : c.in-Element.length < 2 ^ 32 = search rules in
    let word = c.word_at-word.ensures ∙ ap (word_at c.args.words.now) c.place.ensures in
    let fits : FitsSigned w32 c.cast_signed.result = search rules in
    let bound = c.constant_word.ensures ∙ ap constant_word (to_z-of_z w32 c.cast_signed.result fits ∙ c.cast_signed.ensures)
    ∙ signed_word c.in-Element.length low in
    let made = range_made c.args.words.now c.args.circuit.now c.compare.new.circuit c.args.all c.constant-low.result
    c.in_ok-below-in-Element.below
    c.word_at-word.result c.constant_word.result c.args.cell c.in-Element.first c.in-Element.length c.in-Element.index c.in-Element.is
    c.constant-low.ensures.literal word bound c.in_ok-below-in-Element.ensures.formula c.in_ok-below-in-Element.ensures.literal in
    IfOk-weaker c.and.result (λ _. c.and.new.self ≡ (conjunction c.compare.new.circuit c.args.all c.in_ok-below-in-Element.below).formula)
    (λ _. c.and.new.self ≡ (with_range c.args.words.now (kept c.args.circuit.now c.args.all) c.args.cell).formula)
    (λ _ is. is ∙ ap (λ (k : Made). k.formula) made) c.and.ensures.formula
