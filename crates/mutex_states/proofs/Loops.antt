-- Clauses and gates, made one number after another.
use Rattle.std.proofs.Common.{◌≡◌, ◌≢◌, ℕ, zero, suc, ◌+◌, List, [], ◌∷◌, ℤ, neg_ℤ, refl, ap, ap₂, sym, ◌∙◌, arith}
use Rattle.std.specs.Prelude.{fold, if◌then◌else◌}
use Rattle.std.specs.List.{flat_map, range_with_len}
use Rattle.std.proofs.lemmas.Bool.{eq-eqb, ne_eqb}
use Rattle.std.proofs.lemmas.List.{append-nil}
use Rattle.cnf_core.specs.Clauses.{Formula}
use Rattle.bit_gates.specs.Folded.{conjunction}
use Rattle.bit_order.specs.Clauses.{with_clause}
use Rattle.bit_order.proofs.Ranges.{pieces_more}
use Rattle.bit_blast.specs.Reads.{with_clauses}
use Rattle.bit_blast.proofs.Loops.{next_clauses, with_one}
use Rattle.mutex_states.specs.Ranks.{fall, least_literal, number_clauses, rank_gate, rise}

-- the clauses of one more number
pub pieces_next : (f : ℕ → List (List ℤ)) (k : ℕ) (base g h : Formula) → g ≡ with_clauses base (flat_map f (range_with_len 0 k)) → h ≡ with_clauses g (f k)
    → h ≡ with_clauses base (flat_map f (range_with_len 0 (k + 1)))
pieces_next f k base g h known step =
    next_clauses base g h (flat_map f (range_with_len 0 k)) (flat_map f (range_with_len 0 (k + 1))) (f k) known step (pieces_more f 0 k k (omega arith))

fold_suc : {S : Type 0} (step : S → ℕ → S) (s : S) (a n : ℕ) → fold step s (range_with_len a (suc n)) ≡ step (fold step s (range_with_len a n)) (a + n)
fold_suc step s a zero = let e : a ≡ a + 0 = omega arith in ap (step s) e
fold_suc step s a (suc n) =
    let e : (a + 1) + n ≡ a + suc n = omega arith in
    fold_suc step (step s a) (a + 1) n ∙ ap (step (fold step (step s a) (range_with_len (a + 1) n))) e

-- a fold over one more number
pub fold_more : {S : Type 0} (step : S → ℕ → S) (s : S) (n : ℕ) → fold step s (range_with_len 0 (n + 1)) ≡ step (fold step s (range_with_len 0 n)) n
fold_more step s n =
    let e : n + 1 ≡ suc n = omega arith in
    let k : 0 + n ≡ n = omega arith in
    ap (λ m. fold step s (range_with_len 0 m)) e ∙ fold_suc step s 0 n ∙ ap (step (fold step s (range_with_len 0 n))) k

-- the gate of a region and a rank, from its literals
pub gate_made : (count start rank region : ℕ) (f g : Formula) (low above : ℤ) → f ≡ g → low ≡ least_literal count start region rank
    → above ≡ neg_ℤ (least_literal count start region (rank + 1)) → conjunction f low above ≡ rank_gate count start rank g region
gate_made count start rank region f g low above same one two =
    let e : rank + 1 ≡ suc rank = omega arith in
    ap (λ k. conjunction k low above) same ∙ ap₂ (conjunction g) one (two ∙ ap (λ k. neg_ℤ (least_literal count start region k)) e)

three_same : (a b c p q r : ℤ) → a ≡ p → b ≡ q → c ≡ r → a ∷ b ∷ c ∷ [] ≡ p ∷ q ∷ r ∷ []
three_same a b c p q r e f g = ap (λ l. l ∷ b ∷ c ∷ []) e ∙ ap (λ l. p ∷ l ∷ c ∷ []) f ∙ ap (λ l. p ∷ q ∷ l ∷ []) g

module _ (count start : ℕ) (before : (first second : ℕ) → ℤ) (first least second : ℕ) where
  abbrev clause : List ℤ
  clause = neg_ℤ (before first second) ∷ neg_ℤ (least_literal count start first least) ∷ least_literal count start second (suc least) ∷ []

  -- the clause of two regions, unless they are one
  pub rise_added : (g h : Formula) (a b c : ℤ) → first ≢ second → a ≡ neg_ℤ (before first second) → b ≡ neg_ℤ (least_literal count start first least)
      → c ≡ least_literal count start second (least + 1) → h ≡ with_clause g (a ∷ b ∷ c ∷ []) → h ≡ with_clauses g (rise count start before first least second)
  rise_added g h a b c apart one two three step =
      let next : least + 1 ≡ suc least = omega arith in
      step
      ∙ ap (with_clause g)
      (three_same a b c (neg_ℤ (before first second)) (neg_ℤ (least_literal count start first least)) (least_literal count start second (suc least)) one two
      (three ∙ ap (least_literal count start second) next)) ∙ with_one g clause
      ∙ sym (ap (λ k. with_clauses g (if k then [] else clause ∷ [])) (ne_eqb first second apart))

  pub rise_none : (g h : Formula) → first ≡ second → h ≡ g → h ≡ with_clauses g (rise count start before first least second)
  rise_none g h one step =
      step ∙ ap (λ cs. let k : Formula = record { vars = g.vars; clauses = cs } in k) (sym (append-nil g.clauses))
      ∙ sym (ap (λ k. with_clauses g (if k then [] else clause ∷ [])) (eq-eqb first second one))

-- all clauses of a region and a number
pub number_made : (count start : ℕ) (before : (first second : ℕ) → ℤ) (region least : ℕ) (f g h : Formula) (a b : ℤ)
    → a ≡ neg_ℤ (least_literal count start region (least + 1)) → b ≡ least_literal count start region least → g ≡ with_clause f (a ∷ b ∷ [])
    → h ≡ with_clauses g (flat_map (rise count start before region least) (range_with_len 0 count))
    → h ≡ with_clauses f (number_clauses count start before region least)
number_made count start before region least f g h a b one two first rest =
    let next : least + 1 ≡ suc least = omega arith in
    let is : a ∷ b ∷ [] ≡ fall count start region least =
    ap (λ l. l ∷ b ∷ []) (one ∙ ap (λ k. neg_ℤ (least_literal count start region k)) next)
    ∙ ap (λ l. neg_ℤ (least_literal count start region (suc least)) ∷ l ∷ []) two in
    let rises : List (List ℤ) = flat_map (rise count start before region least) (range_with_len 0 count) in
    next_clauses f g h (fall count start region least ∷ []) (number_clauses count start before region least) rises
    (first ∙ ap (with_clause f) is ∙ with_one f (fall count start region least)) rest refl
