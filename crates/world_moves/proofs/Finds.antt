-- Searches over numbered elements.
use Rattle.std.proofs.Common.{◌≡◌, ◌∙◌, ℕ, zero, suc, ◌+◌, ◌<◌, Bool, true, false, ◌||◌, cond, List, [], ◌∷◌, ◌++◌, take, length, get_or, fold}
use Rattle.std.proofs.Common.{Some, None, refl, sym, ap, arith}
use Rattle.std.specs.List.{enumerate_from, find, list_any, range_with_len}
use Rattle.std.proofs.lemmas.Bool.{true≢false}
use Rattle.std.proofs.lemmas.List.{get_or_default, take_more}
use Rattle.std.proofs.lemmas.List.FromFn.{length-enumerate_from, get_or-enumerate_from}
use Rattle.std.proofs.lemmas.List.Folds.{list_any-append}
use Rattle.std.proofs.lemmas.List.Sums.{fold-append}

module _ {X : Type 0} (p : X → Bool) where
  found_in : (xs : List X) (i : ℕ) (x : X) → list_any p (take i xs) ≡ false → i < length xs → x ≡ get_or xs i x → p x ≡ true → find p xs ≡ Some x
  found_in [] i x none within at hit = absurd (omega (arith, within))
  found_in (z ∷ zs) zero x none within at hit =
      ap (λ b. cond b (Some z) (find p zs)) (ap p (sym at) ∙ hit) ∙ ap (λ y. Some y) (sym at)
  found_in (z ∷ zs) (suc i) x none within at hit = by (p z) none (λ n. found_in zs i x n (omega (arith, within)) at hit)
    where
      by : (b : Bool) → (b || list_any p (take i zs)) ≡ false → (list_any p (take i zs) ≡ false → find p zs ≡ Some x)
          → cond b (Some z) (find p zs) ≡ Some x
      by true n later = absurd (true≢false n)
      by false n later = later n

  nowhere_in : (xs : List X) (i : ℕ) → list_any p (take i xs) ≡ false → i ≡ length xs → find p xs ≡ None
  nowhere_in [] i none end = refl
  nowhere_in (z ∷ zs) zero none end = absurd (omega (arith, end))
  nowhere_in (z ∷ zs) (suc i) none end = by (p z) none (λ n. nowhere_in zs i n (omega (arith, end)))
    where
      by : (b : Bool) → (b || list_any p (take i zs)) ≡ false → (list_any p (take i zs) ≡ false → find p zs ≡ None)
          → cond b (Some z) (find p zs) ≡ None
      by true n later = absurd (true≢false n)
      by false n later = later n

module _ {X : Type 0} (p : ℕ × X → Bool) (xs : List X) (i : ℕ) where
  abbrev all : List (ℕ × X)
  all = enumerate_from 0 xs

  at_place : (x : X) → i < length xs → x ≡ get_or xs i x → get_or all i (i, x) ≡ (i, x)
  at_place x within at =
      get_or-enumerate_from 0 xs i (i, x) within ∙ ap (λ y. (0 + i, y)) (sym at) ∙ ap (λ n. (n, x)) (let e : 0 + i ≡ i = omega arith in e)

  -- the element at a place of an equal list
  module _ (own : List X) (d : X) (is : own ≡ xs) (within : i < length own) (none : list_any p (take i all) ≡ false) where
    abbrev x : X
    x = get_or own i d

    inside : i < length xs
    inside = omega (arith, within, ap length is)

    here : get_or all i (i, x) ≡ (i, x)
    here = at_place x inside (ap (λ ys. get_or ys i d) is ∙ get_or_default xs i d x inside)

    -- the first element that passes is found
    pub found : (n : ℕ) → n ≡ i → p (i, x) ≡ true → Some (n, x) ≡ find p all
    found n same hit =
        ap (λ m. Some (m, x)) same ∙ sym (found_in p all i (i, x) none (omega (arith, inside, length-enumerate_from 0 xs)) (sym here) hit)

    -- an element that doesn't pass is skipped
    pub passed : p (i, x) ≡ false → list_any p (take (i + 1) all) ≡ false
    passed missed =
        ap (list_any p) (take_more all i (i, x) (omega (arith, inside, length-enumerate_from 0 xs)))
        ∙ list_any-append p (take i all) (get_or all i (i, x) ∷ [])
        ∙ ap (λ b. b || list_any p (get_or all i (i, x) ∷ [])) none
        ∙ ap (λ y. list_any p (y ∷ [])) here ∙ ap (λ b. b || false) missed

  pub nowhere : list_any p (take i all) ≡ false → i ≡ length xs → find p all ≡ None
  nowhere none end = nowhere_in p all i none (omega (arith, end, length-enumerate_from 0 xs))

-- a range with one more number at its end
range_more : (a n : ℕ) → range_with_len a (n + 1) ≡ range_with_len a n ++ (a + n) ∷ []
range_more a zero = ap (λ m. m ∷ []) (let e : a ≡ a + 0 = omega arith in e)
range_more a (suc n) =
    ap (range_with_len a) (let e : suc n + 1 ≡ suc (n + 1) = omega arith in e)
    ∙ ap (λ ms. a ∷ ms) (range_more (a + 1) n ∙ ap (λ m. range_with_len (a + 1) n ++ m ∷ []) (let e : a + 1 + n ≡ a + suc n = omega arith in e))

-- one more step of a fold over the numbers below one
pub fold_range : {Y : Type 0} (f : Y → ℕ → Y) (y : Y) (n : ℕ) → fold f y (range_with_len 0 (n + 1)) ≡ f (fold f y (range_with_len 0 n)) n
fold_range f y n =
    ap (fold f y) (range_more 0 n) ∙ fold-append f y (range_with_len 0 n) ((0 + n) ∷ [])
    ∙ ap (λ m. f (fold f y (range_with_len 0 n)) m) (let e : 0 + n ≡ n = omega arith in e)
