-- Clauses about words of 32 literals.
use Rattle.std.proofs.Common.{◌≡◌, ◌<◌, ◌^◌, List, [], ◌∷◌, ℤ, pos, neg_ℤ, refl, ap, sym, ◌∙◌, subst, arith, Bool, true, false, not, map}
use Rattle.std.specs.Prelude.{◌||◌}
use Rattle.std.specs.List.{Contains, list_any}
use Rattle.std.specs.Ordering.{int_eq}
use Rattle.std.proofs.lemmas.Bool.{false≢true}
use Rattle.std.proofs.lemmas.List.Elements.{All-contains}
use Rattle.std.proofs.lemmas.List.Folds.{list_all-map}
use Rattle.cnf_core.specs.Clauses.{Formula, Valuation, clause_true, literal_true, satisfies}
use Rattle.bit_gates.specs.Laws.{IsOf}
use Rattle.circuit_sizes.specs.bit_ops.Laws.{IsOperand}
use Rattle.circuit_sizes.specs.bit_ops.bit_arith.Laws.{int_value}
use Rattle.circuit_sizes.specs.bit_ops.bit_words.Laws.{value}
use Rattle.circuit_sizes.proofs.bit_ops.Bits.{some_number}
use Rattle.circuit_sizes.proofs.bit_ops.Meaning.{same_int}
use Rattle.circuit_sizes.proofs.bit_ops.bit_arith.Values.{value_below}
use Rattle.bit_blast.specs.Reads.{value_clauses}
use Rattle.bit_blast.proofs.Lists.{any_of, passes_all}
use Rattle.bit_blast.proofs.Values.{ints_same, values_off, values_on}
use Rattle.std.proofs.lemmas.List.{length-map}
use Rattle.mutex_states.proofs.Literals.{opposite}

either_true : (a b : Bool) → a ≡ true → (a || b) ≡ true
either_true true b h = refl
either_true false b h = absurd (false≢true h)

second_true : (a b : Bool) → b ≡ true → (a || b) ≡ true
second_true true b h = refl
second_true false b h = h

module _ (v : Valuation) (g : Formula) where
  not_true : (l : ℤ) → IsOf g.vars l → literal_true v l ≡ false → literal_true v (neg_ℤ l) ≡ true
  not_true l of h = opposite v g.vars l of ∙ ap not h

  -- words are equal by clauses if they have the same int where two literals are true
  pub equal_words : (a b : ℤ) (xs ys : List ℤ) → IsOf g.vars a → IsOf g.vars b → IsOperand g xs → IsOperand g ys
      → (literal_true v a ≡ true → literal_true v b ≡ true → int_value v xs ≡ int_value v ys) → satisfies v (value_clauses a b xs ys) ≡ true
  equal_words a b xs ys p q x y h = by (literal_true v a) (literal_true v b) refl refl
    where
      by : (m n : Bool) → literal_true v a ≡ m → literal_true v b ≡ n → satisfies v (value_clauses a b xs ys) ≡ true
      by true true e f =
          values_on v g.vars a b xs ys x.literals y.literals
          (ints_same v xs ys x.width y.width
          (length-map xs (literal_true v) ∙ x.width ∙ sym y.width ∙ sym (length-map ys (literal_true v))) (h e f))
      by false n e f = values_off v a b xs ys (either_true (literal_true v (neg_ℤ a)) (literal_true v (neg_ℤ b)) (not_true a p e))
      by true false e f = values_off v a b xs ys (second_true (literal_true v (neg_ℤ a)) (literal_true v (neg_ℤ b)) (not_true b q f))

  -- a literal of a word is true exactly if its int isn't 0
  pub some_literal : (xs : List ℤ) → IsOperand g xs → list_any (literal_true v) xs ≡ not (int_eq (int_value v xs) (pos 0))
  some_literal xs x =
      some_number v xs ∙ ap not (same_int (value v xs) 0 (subst (λ n. value v xs < 2 ^ n) x.width (value_below v xs)) (omega arith))

  no_literal : (xs : List ℤ) (l : ℤ) → IsOperand g xs → int_eq (int_value v xs) (pos 0) ≡ true → Contains xs l → literal_true v l ≡ false
  no_literal xs l x zero there = by (literal_true v l) refl
    where
      by : (b : Bool) → literal_true v l ≡ b → literal_true v l ≡ false
      by false e = e
      by true e = absurd (false≢true (sym (some_literal xs x ∙ ap not zero) ∙ any_of (literal_true v) xs l there e))

  -- clauses that some literals aren't all true, or another clause is
  pub unless_three : (a b c : ℤ) (rest : List ℤ) → IsOf g.vars a → IsOf g.vars b → IsOf g.vars c
      → (literal_true v a ≡ true → literal_true v b ≡ true → literal_true v c ≡ true → clause_true v rest ≡ true)
      → clause_true v (neg_ℤ a ∷ neg_ℤ b ∷ neg_ℤ c ∷ rest) ≡ true
  unless_three a b c rest p q r h =
      ap (λ x. x || (literal_true v (neg_ℤ b) || (literal_true v (neg_ℤ c) || clause_true v rest))) (opposite v g.vars a p)
      ∙ ap (λ x. not (literal_true v a) || (x || (literal_true v (neg_ℤ c) || clause_true v rest))) (opposite v g.vars b q)
      ∙ ap (λ x. not (literal_true v a) || (not (literal_true v b) || (x || clause_true v rest))) (opposite v g.vars c r)
      ∙ by (literal_true v a) (literal_true v b) (literal_true v c) h
    where
      by : (x y z : Bool) → (x ≡ true → y ≡ true → z ≡ true → clause_true v rest ≡ true) → (not x || (not y || (not z || clause_true v rest))) ≡ true
      by true true true k = k refl refl refl
      by true true false k = refl
      by true false z k = refl
      by false y z k = refl

  pub unless_one : (a : ℤ) (rest : List ℤ) → IsOf g.vars a → (literal_true v a ≡ true → clause_true v rest ≡ true) → clause_true v (neg_ℤ a ∷ rest) ≡ true
  unless_one a rest p h = ap (λ x. x || clause_true v rest) (opposite v g.vars a p) ∙ by (literal_true v a) h
    where
      by : (x : Bool) → (x ≡ true → clause_true v rest ≡ true) → (not x || clause_true v rest) ≡ true
      by true k = k refl
      by false k = refl

  -- the clauses of a test, where its expression comes out as wanted
  pub test_true : (a b c : ℤ) (word : List ℤ) → IsOf g.vars a → IsOf g.vars b → IsOf g.vars c → IsOperand g word
      → (literal_true v a ≡ true → literal_true v b ≡ true → literal_true v c ≡ true → not (int_eq (int_value v word) (pos 0)) ≡ true)
      → clause_true v (neg_ℤ a ∷ neg_ℤ b ∷ neg_ℤ c ∷ word) ≡ true
  test_true a b c word p q r x h = unless_three a b c word p q r (λ d e f. some_literal word x ∙ h d e f)

  pub test_false : (a b c : ℤ) (word : List ℤ) → IsOf g.vars a → IsOf g.vars b → IsOf g.vars c → IsOperand g word
      → (literal_true v a ≡ true → literal_true v b ≡ true → literal_true v c ≡ true → not (int_eq (int_value v word) (pos 0)) ≡ false)
      → satisfies v (map (λ l. neg_ℤ a ∷ neg_ℤ b ∷ neg_ℤ c ∷ neg_ℤ l ∷ []) word) ≡ true
  test_false a b c word p q r x h =
      list_all-map (clause_true v) (λ l. neg_ℤ a ∷ neg_ℤ b ∷ neg_ℤ c ∷ neg_ℤ l ∷ []) word
      ∙ passes_all (λ l. clause_true v (neg_ℤ a ∷ neg_ℤ b ∷ neg_ℤ c ∷ neg_ℤ l ∷ [])) word
      (λ l there. unless_three a b c (neg_ℤ l ∷ []) p q r
      (λ d e f. either_true (literal_true v (neg_ℤ l)) false
      (not_true l (All-contains (IsOf g.vars) word l x.literals there)
      (no_literal word l x (is_zero (int_eq (int_value v word) (pos 0)) (h d e f)) there))))
    where
      is_zero : (k : Bool) → not k ≡ false → k ≡ true
      is_zero true e = refl
      is_zero false e = absurd (false≢true (sym e))
