use Rattle.std.proofs.Common.{◌≡◌, ℕ, suc, ◌+◌, ◌*◌, List, [], ◌∷◌, ◌++◌, ℤ, ap, sym, ◌∙◌, subst, arith, map}
use Rattle.std.specs.List.{All, range_with_len}
use Rattle.std.proofs.lemmas.List.Elements.{All-push}
use Rattle.std.proofs.lemmas.List.FromFn.{map-range_with_len_more}
use Rattle.bit_words.specs.Words.{AreWithin}
use Rattle.bit_order.specs.Layouts.{word_from}
use Rattle.bit_terms.proofs.Loops.{words_more}
use Rattle.mutex_clauses.proofs.turns.variables.new_words.Goals as goal

pub loop-preserved : goal.loop-preserved
loop-preserved c =
    let n : ℕ = c.args.circuit.now.vars in
    let k : ℕ = c.loop.counter in
    let f : ℕ → List ℤ = λ j. word_from (suc n + 32 * j) 32 in
    let word : List ℤ = c.new_word.result in
    let high : ℕ = c.new_word.new.circuit.vars in
    let was = c.loop.invariant in
    let items = c.in_ok-push.ensures.items in
    let fresh : word ≡ f k =
    c.new_word.ensures.word ∙ ap (λ v. word_from v 32) (let e : suc c.loop.circuit.vars ≡ suc n + 32 * k = omega (arith, was.vars) in e) in
    record {
      words = items ∙ ap (λ ws. ws ++ word ∷ []) was.words ∙ ap (λ w. map f (range_with_len 0 k) ++ w ∷ []) fresh
          ∙ sym (map-range_with_len_more f 0 k k (omega arith));
      vars = omega (arith, c.new_word.ensures.vars, was.vars);
      clauses = c.new_word.ensures.clauses ∙ was.clauses;
      within = subst (All (AreWithin high)) (sym items)
          (All-push (AreWithin high) c.loop.words.items word
          (words_more c.loop.circuit.vars high c.loop.words.items (omega (arith, c.new_word.ensures.vars)) was.within)
          c.new_word.ensures.within);
    }
