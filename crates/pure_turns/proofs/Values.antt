-- Expressions and lists on which two threads agree.
use Rattle.std.proofs.Common.{◌≡◌, ◌≢◌, ℕ, zero, suc, ℤ, pos, List, [], ◌∷◌, map, length, Bool, true, false, ◌||◌, IsTrue, refl, ap, ap₂}
use Rattle.std.proofs.Common.{slice_set, slice_index_or, arith}
use Rattle.std.specs.List.{list_any}
use Rattle.std.proofs.lemmas.Bool.Decides.{Decides-eqb}
use Rattle.run_laws.specs.int_ops.Arith.{unary, binary}
use Rattle.run_laws.specs.tc_code.Expr.{Expr, Number, Slot, Unary, Binary, value_of, names_slot}

or_left : (a b : Bool) → a ≡ true → (a || b) ≡ true
or_left true b e = refl
or_left false b e = absurd cc

or_right : (a b : Bool) → b ≡ true → (a || b) ≡ true
or_right true b e = refl
or_right false b e = e

-- two lists have the same value at a place
abbrev pub Agree : List ℤ → List ℤ → ℕ → Type 0
Agree xs ys k = slice_index_or xs k (pos 0) ≡ slice_index_or ys k (pos 0)

module _ (xs ys : List ℤ) where
  -- an expression has the same value if its slots have
  value_agrees : (e : Expr) → ((k : ℕ) → IsTrue (names_slot k e) → Agree xs ys k) → value_of e xs ≡ value_of e ys
  value_agrees (Number n) agree = refl
  value_agrees (Slot k) agree = agree k ((Decides-eqb k k).1 refl)
  value_agrees (Unary op a) agree = ap (unary op) (value_agrees a agree)
  value_agrees (Binary op a b) agree =
      ap₂ (binary op) (value_agrees a (λ k named. agree k (or_left _ _ named))) (value_agrees b (λ k named. agree k (or_right (names_slot k a) _ named)))

  -- each expression has the same value
  abbrev pub SameValues : List Expr → Type 0
  SameValues [] = Unit {0}
  SameValues (e ∷ es) = (value_of e xs ≡ value_of e ys) × SameValues es

  -- expressions have the same values if their slots have
  pub values_agree : (es : List Expr) → ((k : ℕ) → IsTrue (list_any (names_slot k) es) → Agree xs ys k)
      → SameValues es
  values_agree [] agree = tt
  values_agree (e ∷ es) agree = (
    value_agrees e (λ k named. agree k (or_left _ _ named)),
    values_agree es (λ k named. agree k (or_right (names_slot k e) _ named)),
  )

  pub map_agrees : (es : List Expr) → SameValues es → map (λ e. value_of e xs) es ≡ map (λ e. value_of e ys) es
  map_agrees [] all = refl
  map_agrees (e ∷ es) all = ap₂ (λ v vs. v ∷ vs) all.0 (map_agrees es all.1)

-- setting the same value in both keeps agreement, and adds this place
pub set_agrees : (xs ys : List ℤ) (j k : ℕ) (x : ℤ) → length xs ≡ length ys → (j ≢ k → Agree xs ys k) → Agree (slice_set xs j x) (slice_set ys j x) k
set_agrees [] [] j k x same agree = refl
set_agrees [] (y ∷ ys) j k x same agree = absurd (omega (arith, same))
set_agrees (y ∷ ys) [] j k x same agree = absurd (omega (arith, same))
set_agrees (y ∷ ys) (z ∷ zs) zero zero x same agree = refl
set_agrees (y ∷ ys) (z ∷ zs) zero (suc k) x same agree = agree (λ e. omega (arith, e))
set_agrees (y ∷ ys) (z ∷ zs) (suc j) zero x same agree = agree (λ e. omega (arith, e))
set_agrees (y ∷ ys) (z ∷ zs) (suc j) (suc k) x same agree =
    set_agrees ys zs j k x (omega (arith, same)) (λ other. agree (λ e. other (omega (arith, e))))

-- setting an element to its own value changes nothing
pub set_same : (xs : List ℤ) (k : ℕ) → slice_set xs k (slice_index_or xs k (pos 0)) ≡ xs
set_same [] k = refl
set_same (x ∷ xs) zero = refl
set_same (x ∷ xs) (suc k) = ap (λ ys. x ∷ ys) (set_same xs k)
