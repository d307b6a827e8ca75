-- The last jump to a loop's first instruction.
use Rattle.std.proofs.Common.{◌≡◌, ◌∙◌, inl, inr, ℕ, zero, suc, ◌+◌, ◌<◌, List, [], ◌∷◌, ◌++◌, cond, take, Bool, true, false, ◌&&◌, ◌||◌, nat_le, Option, Some, None, refl, ap, sym, arith, slice_get, add-one}
use Rattle.std.proofs.lemmas.Bool.{cases_Bool, le-leb, leb-true, leb-false, lt-leb}
use Rattle.std.proofs.Math.Bool.{and-true, and-false, or-false}
use Rattle.std.proofs.lemmas.Option.{none-some, same_Some}
use Rattle.std.proofs.lemmas.List.{append-nil}
use Rattle.std.specs.List.{filter, range_with_len}
use Rattle.std.specs.Option.{option_map_or}
use Rattle.tc_code.specs.declared.instr.Instr.{Instr}
use Rattle.places.specs.Places.{jumps_to, is_around}

or_assoc : (a b c : Bool) → (a || (b || c)) ≡ ((a || b) || c)
or_assoc true b c = refl
or_assoc false b c = refl

-- nothing is around an instruction past the last one
nothing_left : (at first : ℕ) → is_around [] at first ≡ false
nothing_left zero first = refl
nothing_left (suc at) first = refl

suc_le : (a b : ℕ) → nat_le (suc a) (suc b) ≡ nat_le a b
suc_le a b =
    elim (cases_Bool (nat_le a b)) [
      | inl t ↦ le-leb (suc a) (suc b) (omega (arith, leb-true a b t)) ∙ sym t
      | inr f ↦ lt-leb (suc a) (suc b) (omega (arith, leb-false a b f)) ∙ sym f
    ]

-- one more instruction
pub around_more : (is : List Instr) (n at first : ℕ) (i : Instr) → slice_get is n ≡ Some i
    → is_around (take (suc n) is) at first ≡ (is_around (take n is) at first || (nat_le at n && jumps_to first i))
around_more [] n at first i there = absurd (none-some i there)
around_more (j ∷ is) zero zero first i there =
    let same : j ≡ i = same_Some j i there in
    elim (cases_Bool (jumps_to first i)) [ inl t ↦ rw (ap (jumps_to first) same ∙ t, t) refl | inr f ↦ rw (ap (jumps_to first) same ∙ f, f) refl ]
around_more (j ∷ is) zero (suc at) first i there =
    let none : nat_le (suc at) 0 ≡ false = lt-leb (suc at) 0 (omega arith) in
    rw none (nothing_left at first)
around_more (j ∷ is) (suc n) zero first i there =
    let rest : is_around (take (suc n) is) zero first ≡ (is_around (take n is) zero first || jumps_to first i) =
    around_more is n zero first i there ∙ rw (le-leb 0 n (omega arith)) refl in
    let whole : (jumps_to first j || is_around (take (suc n) is) zero first)
    ≡ ((jumps_to first j || is_around (take n is) zero first) || (nat_le 0 (suc n) && jumps_to first i)) =
    rw (le-leb 0 (suc n) (omega arith))
    (ap (λ b. jumps_to first j || b) rest ∙ or_assoc (jumps_to first j) (is_around (take n is) zero first) (jumps_to first i)) in
    whole
around_more (j ∷ is) (suc n) (suc at) first i there = rw (suc_le at n) (around_more is n at first i there)

-- what is known of the last jump among the first instructions
pub record IsLast (is : List Instr) (n first : ℕ) (last : Option ℕ) : Type 0 where
  pub within : (l : ℕ) → last ≡ Some l → l < n
  pub tells : (at : ℕ) → is_around (take n is) at first ≡ option_map_or (λ l. nat_le at l) last false

pub none_last : (is : List Instr) (first : ℕ) → IsLast is 0 first None
none_last is first = record { within = λ l e. absurd (none-some l e); tells = λ at. nothing_left at first }

-- where a jump at n is the last one
at_last : (at n : ℕ) (last : Option ℕ) → ((l : ℕ) → last ≡ Some l → l < n)
    → (option_map_or (λ l. nat_le at l) last false || (nat_le at n && true)) ≡ nat_le at n
at_last at n None within = and-true (nat_le at n)
at_last at n (Some l) within =
    elim (cases_Bool (nat_le at l)) [
      | inl t ↦ rw (t, le-leb at n (omega (arith, leb-true at l t, within l refl))) refl
      | inr f ↦ rw f (and-true (nat_le at n))
    ]

module _ (is : List Instr) (n first : ℕ) (last : Option ℕ) (known : IsLast is n first last) (i : Instr) (there : slice_get is n ≡ Some i) where
  -- the last jump stays, or the next instruction is one
  pub same_last : jumps_to first i ≡ false → IsLast is (n + 1) first last
  same_last other = record {
    within = λ l e. omega (arith, known.within l e);
    tells = λ at. rw (add-one n) (around_more is n at first i there
        ∙ rw other (ap (λ b. is_around (take n is) at first || b) (and-false (nat_le at n)) ∙ or-false (is_around (take n is) at first)) ∙ known.tells at);
  }

  pub new_last : jumps_to first i ≡ true → IsLast is (n + 1) first (Some n)
  new_last jumps = record {
    within = λ l e. omega (arith, same_Some n l e);
    tells = λ at. rw (add-one n) (around_more is n at first i there ∙ rw (jumps, known.tells at) (at_last at n last known.within));
  }

-- the numbers up to n that pass a test
one_more : (P : ℕ → Bool) (a n k : ℕ) → a + n ≡ k → filter P (range_with_len a (suc n)) ≡ filter P (range_with_len a n) ++ cond (P k) (k ∷ []) []
one_more P a zero k e =
    let same : a ≡ k = omega (arith, e) in
    elim (cases_Bool (P a)) [ inl t ↦ rw (t, ap P (sym same) ∙ t) (ap (λ b. b ∷ []) same) | inr f ↦ rw (f, ap P (sym same) ∙ f) refl ]
one_more P a (suc n) k e =
    let rest = one_more P (a + 1) n k (omega (arith, e)) in
    elim (cases_Bool (P a)) [ inl t ↦ rw t (ap (λ bs. a ∷ bs) rest) | inr f ↦ rw f rest ]

pub kept : (P : ℕ → Bool) (n : ℕ) → P n ≡ true → filter P (range_with_len 0 (n + 1)) ≡ filter P (range_with_len 0 n) ++ n ∷ []
kept P n t = rw (add-one n) (one_more P 0 n n (omega arith) ∙ rw t refl)

pub left : (P : ℕ → Bool) (n : ℕ) → P n ≡ false → filter P (range_with_len 0 (n + 1)) ≡ filter P (range_with_len 0 n)
left P n f = rw (add-one n) (one_more P 0 n n (omega arith) ∙ rw f (append-nil (filter P (range_with_len 0 n))))
