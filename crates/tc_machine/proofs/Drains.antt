-- The forms in which a buffer drains, among all forms that are tried.
use Rattle.std.proofs.Common.{◌≡◌, ◌∙◌, ◌⊎◌, inl, inr, ℕ, zero, suc, ◌+◌, ◌<◌, ◌≤◌, List, [], ◌∷◌, map, cond, Bool, true, false, ◌||◌, nat_eq}
use Rattle.std.proofs.Common.{Option, Some, None, refl, ap, sym, arith}
use Rattle.std.specs.List.{filter, list_any, range_with_len, AllByRecursion}
use Rattle.std.specs.List.Sorted.{IsStrictlySortedBy}
use Rattle.std.specs.Option.{option_cmp, option_eq}
use Rattle.std.specs.Ordering.{nat_cmp}
use Rattle.std.specs.Cmp.{ranked, nat_eq_equiv}
use Rattle.std.specs.declared.cmp.Ordering.{Ordering}
use Rattle.std.specs.declared.cmp.Ordering.TheVariants.{Less, Equal, Greater}
use Rattle.std.proofs.lemmas.Bool.{false≢true, or_right}
use Rattle.std.proofs.lemmas.Bool.Decides.{Decides-eqb}
use Rattle.std.proofs.lemmas.Map.Keys.{sorted_head, sorted_tail}

-- whether a form is one of these
abbrev pub has : List (Option ℕ) → Option ℕ → Bool
has fs f = list_any (option_eq nat_eq f) fs

-- the form names a cell from this number on
abbrev IsFrom : ℕ → Option ℕ → Type 0
IsFrom a None = ⊥
IsFrom a (Some c) = a ≤ c

greater_not_less : Greater ≡ Less → ⊥
greater_not_less e = cc

equal_not_less : Equal ≡ Less → ⊥
equal_not_less e = cc

after : (c : ℕ) (f : Option ℕ) → option_cmp nat_cmp (Some c) f ≡ Less → IsFrom (c + 1) f
after c None e = absurd (greater_not_less e)
after c (Some d) e = let lt : c < d = ranked c d Less (sym e) in omega (arith, lt)

all_after : (c : ℕ) (fs : List (Option ℕ)) → AllByRecursion (λ f. option_cmp nat_cmp (Some c) f ≡ Less) fs → AllByRecursion (IsFrom (c + 1)) fs
all_after c [] h = tt
all_after c (f ∷ fs) h = (after c f h.0, all_after c fs h.1)

-- after the form without a cell there are only forms with cells
all_cells : (fs : List (Option ℕ)) → AllByRecursion (λ f. option_cmp nat_cmp None f ≡ Less) fs → AllByRecursion (IsFrom 0) fs
all_cells [] h = tt
all_cells (None ∷ fs) h = absurd (equal_not_less h.0)
all_cells (Some c ∷ fs) h = (omega arith, all_cells fs h.1)

weaker : (a b : ℕ) → a ≤ b → (fs : List (Option ℕ)) → AllByRecursion (IsFrom b) fs → AllByRecursion (IsFrom a) fs
weaker a b le [] h = tt
weaker a b le (None ∷ fs) h = absurd h.0
weaker a b le (Some c ∷ fs) h = let more : b ≤ c = h.0 in (omega (arith, le, more), weaker a b le fs h.1)

unequal : (c d : ℕ) → (c ≡ d → ⊥) → nat_eq c d ≡ false
unequal c d apart = tested (nat_eq c d) refl
  where
    tested : (b : Bool) → nat_eq c d ≡ b → nat_eq c d ≡ false
    tested true e = absurd (apart ((Decides-eqb c d).0 e))
    tested false e = e

-- no lesser cell is among these forms, and neither is the form without a cell
none_below : (a c : ℕ) (fs : List (Option ℕ)) → AllByRecursion (IsFrom a) fs → c < a → has fs (Some c) ≡ false
none_below a c [] h lt = refl
none_below a c (None ∷ fs) h lt = absurd h.0
none_below a c (Some d ∷ fs) h lt =
    let more : a ≤ d = h.0 in
    ap (λ b. b || has fs (Some c)) (unequal c d (λ e. omega (arith, lt, more, e))) ∙ none_below a c fs h.1 lt

all_name_cells : (a : ℕ) (fs : List (Option ℕ)) → AllByRecursion (IsFrom a) fs → has fs None ≡ false
all_name_cells a [] h = refl
all_name_cells a (None ∷ fs) h = absurd h.0
all_name_cells a (Some d ∷ fs) h = all_name_cells a fs h.1

pub same_or_more : (a c : ℕ) → a ≤ c → (a ≡ c) ⊎ (a < c)
same_or_more a c le = ordered (nat_cmp a c) refl
  where
    ordered : (r : Ordering) → r ≡ nat_cmp a c → (a ≡ c) ⊎ (a < c)
    ordered Less e = inr (ranked a c Less e)
    ordered Equal e = inl (ranked a c Equal e)
    ordered Greater e = let more : c < a = ranked a c Greater e in absurd (omega (arith, le, more))

has_first : (c : ℕ) (fs : List (Option ℕ)) → has (Some c ∷ fs) (Some c) ≡ true
has_first c fs = ap (λ b. b || has fs (Some c)) (nat_eq_equiv.refl c)

module _ (p : Option ℕ → Bool) where
  -- a form that isn't among these doesn't pass, so it is left out
  left_out : (f : Option ℕ) (fs rest : List (Option ℕ)) → (p f ≡ true → has fs f ≡ true) → has fs f ≡ false
      → cond (p f) (f ∷ filter p rest) (filter p rest) ≡ filter p rest
  left_out f fs rest h none = tested (p f) refl
    where
      tested : (b : Bool) → p f ≡ b → cond (p f) (f ∷ filter p rest) (filter p rest) ≡ filter p rest
      tested true e = absurd (false≢true (sym none ∙ h e))
      tested false e = ap (λ b. cond b (f ∷ filter p rest) (filter p rest)) e

  abbrev cells_from : ℕ → ℕ → List (Option ℕ)
  cells_from a n = map (λ c. Some c) (range_with_len a n)

  -- the rising cells that pass are those of the range that pass, if all that pass are among them
  rising : (fs : List (Option ℕ)) (a n : ℕ) → IsStrictlySortedBy (option_cmp nat_cmp) fs → AllByRecursion (IsFrom a) fs
      → ((c : ℕ) → a ≤ c → p (Some c) ≡ true → has fs (Some c) ≡ true) → ((c : ℕ) → has fs (Some c) ≡ true → c < a + n)
      → filter p fs ≡ filter p (cells_from a n)
  rising [] a zero sorted from passes ends = refl
  rising (None ∷ fs) a zero sorted from passes ends = absurd from.0
  rising (Some c ∷ fs) a zero sorted from passes ends =
      let low : a ≤ c = from.0 in
      let high : c < a + zero = ends c (has_first c fs) in
      absurd (omega (arith, low, high))
  rising [] a (suc n) sorted from passes ends =
      rising [] (a + 1) n sorted tt (λ c le. passes c (omega (arith, le))) (λ c h. absurd (false≢true h))
      ∙ sym (left_out (Some a) [] (cells_from (a + 1) n) (passes a (omega arith)) refl)
  rising (None ∷ fs) a (suc n) sorted from passes ends = absurd from.0
  rising (Some c ∷ fs) a (suc n) sorted from passes ends =
      let low : a ≤ c = from.0 in
      let above = all_after c fs (sorted_head (option_cmp nat_cmp) (Some c) fs sorted) in
      elim (same_or_more a c low) [
        | inl same ↦
            ap (λ gs. cond (p (Some c)) (Some c ∷ gs) gs)
            (rising fs (a + 1) n (sorted_tail (option_cmp nat_cmp) (Some c) fs sorted) (weaker (a + 1) (c + 1) (omega (arith, same)) fs above)
            (λ d le e. sym (ap (λ b. b || has fs (Some d)) (unequal d c (λ is. omega (arith, le, same, is)))) ∙ passes d (omega (arith, le)) e)
            (λ d h. let high : d < a + suc n = ends d (or_right (nat_eq d c) (has fs (Some d)) h) in omega (arith, high)))
            ∙ ap (λ d. cond (p (Some d)) (Some d ∷ filter p (cells_from (a + 1) n)) (filter p (cells_from (a + 1) n))) (sym same)
        | inr lt ↦
            rising (Some c ∷ fs) (a + 1) n sorted (omega (arith, lt), weaker (a + 1) (c + 1) (omega (arith, lt)) fs above)
            (λ d le e. passes d (omega (arith, le)) e) (λ d h. let high : d < a + suc n = ends d h in omega (arith, high))
            ∙ sym (left_out (Some a) (Some c ∷ fs) (cells_from (a + 1) n) (passes a (omega arith))
            (ap (λ b. b || has fs (Some a)) (unequal a c (λ e. omega (arith, lt, e))) ∙ none_below (c + 1) a fs above (omega (arith, lt))))
      ]

  -- the rising forms that pass are all forms that pass, if all that pass are among them
  pub passing_forms : (fs : List (Option ℕ)) (n : ℕ) → IsStrictlySortedBy (option_cmp nat_cmp) fs → ((f : Option ℕ) → p f ≡ true → has fs f ≡ true)
      → ((c : ℕ) → has fs (Some c) ≡ true → c < n) → filter p fs ≡ filter p (None ∷ cells_from 0 n)
  passing_forms [] n sorted passes ends =
      rising [] 0 n sorted tt (λ c le. passes (Some c)) (λ c h. let high : c < n = ends c h in omega (arith, high))
      ∙ sym (left_out None [] (cells_from 0 n) (passes None) refl)
  passing_forms (None ∷ fs) n sorted passes ends =
      ap (λ gs. cond (p None) (None ∷ gs) gs)
      (rising fs 0 n (sorted_tail (option_cmp nat_cmp) None fs sorted) (all_cells fs (sorted_head (option_cmp nat_cmp) None fs sorted))
      (λ c le. passes (Some c)) (λ c h. let high : c < n = ends c h in omega (arith, high)))
  passing_forms (Some c ∷ fs) n sorted passes ends =
      let above = weaker 0 (c + 1) (omega arith) fs (all_after c fs (sorted_head (option_cmp nat_cmp) (Some c) fs sorted)) in
      rising (Some c ∷ fs) 0 n sorted (omega arith, above) (λ d le. passes (Some d)) (λ d h. let high : d < n = ends d h in omega (arith, high))
      ∙ sym (left_out None (Some c ∷ fs) (cells_from 0 n) (passes None) (all_name_cells 0 fs above))
