use Rattle.std.proofs.Common.{◌≡◌, ℕ, suc, ◌+◌, ◌-◌, ◌<◌, ◌≤◌, List, ℤ, pos, inl, inr, ap, sym, ◌∙◌, subst, arith, length, length-set, get_or, set}
use Rattle.std.proofs.lemmas.Bool.{cases_order}
use Rattle.std.proofs.lemmas.Grind.{get_or-set_at}
use Rattle.std.proofs.lemmas.List.{get_or-set_other}
use Rattle.std.proofs.lemmas.List.Elements.{All-weaker}
use Rattle.cnf_core.specs.Clauses.{var_of}
use Rattle.bit_gates.specs.Laws.{IsOf}
use Rattle.bit_words.specs.Words.{AreWithin}
use Rattle.bit_order.specs.Layouts.{word_from}
use Rattle.bit_order.proofs.WordLaws.{word_filled, word_within}
use Rattle.mutex_clauses.proofs.turns.variables.new_word.Goals as goal

-- one more bit
word_next : (xs : List ℤ) (first i : ℕ) (l : ℤ) → length xs ≡ 32 → i < 32 → l ≡ pos (first + i)
    → ((k : ℕ) → k < 32 → 32 ≤ k + i → get_or xs k (pos 0) ≡ pos (first + (31 - k)))
    → (k : ℕ) → k < 32 → 32 ≤ k + (i + 1) → get_or (set xs (31 - i) l) k (pos 0) ≡ pos (first + (31 - k))
word_next xs first i l long less is was k below low = elim (cases_order k (31 - i)) [
  | inl same ↦
      get_or-set_at xs (31 - i) k l (pos 0) same (omega (arith, long, less)) ∙ is
      ∙ ap pos (let e : first + i ≡ first + (31 - k) = omega (arith, same, less) in e)
  | inr (inl lower) ↦ absurd (omega (arith, lower, low, less))
  | inr (inr higher) ↦
      get_or-set_other xs (31 - i) k l (pos 0) (λ e. omega (arith, e, higher)) ∙ was k below (omega (arith, higher, less, below))
]

pub loop-place-preserved : goal.loop-place-preserved
loop-place-preserved c =
    let was = c.loop-place.invariant in
    let n : ℕ = c.args.circuit.now.vars in
    let i : ℕ = c.loop-place.place in
    let fresh : c.add_variable.result ≡ pos (suc n + i) =
    c.add_variable.ensures.literal ∙ ap pos (let e : c.loop-place.circuit.vars + 1 ≡ suc n + i = omega (arith, was.vars) in e) in
    record {
      length = length-set c.loop-place.word (31 - i) c.add_variable.result ∙ was.length;
      each = word_next c.loop-place.word (suc n) i c.add_variable.result was.length c.loop-place-test.true fresh was.each;
      vars = omega (arith, c.add_variable.ensures.vars, was.vars);
      clauses = c.add_variable.ensures.clauses ∙ was.clauses;
    }

made : (xs : List ℤ) (first place : ℕ) → length xs ≡ 32 → 32 ≤ place
    → ((k : ℕ) → k < 32 → 32 ≤ k + place → get_or xs k (pos 0) ≡ pos (first + (31 - k))) → xs ≡ word_from first 32
made xs first place long all each =
    word_filled xs first 32 (pos 0) long
    (λ k less. each k less (omega (arith, all)) ∙ ap pos (let e : first + (31 - k) ≡ first + (32 - 1 - k) = omega arith in e))

pub returns-clause-word : goal.returns-clause-word
returns-clause-word c =
    let was = c.loop-place.invariant in
    made c.loop-place.word (suc c.args.circuit.now.vars) c.loop-place.place was.length c.loop-place-test.false was.each

pub returns-clause-within : goal.returns-clause-within
returns-clause-within c =
    let was = c.loop-place.invariant in
    let first : ℕ = suc c.args.circuit.now.vars in
    let m : ℕ = c.loop-place.circuit.vars in
    let is = made c.loop-place.word first c.loop-place.place was.length c.loop-place-test.false was.each in
    subst (AreWithin m) (sym is)
    (All-weaker (IsOf m) (λ l. var_of l ≤ m) (λ l o. o.1) (word_from first 32)
    (word_within first 32 m (omega arith) (omega (arith, was.vars, c.loop-place-test.false))))
