-- Changes between neighbours, in joined lists.
use Rattle.std.proofs.Common.{◌≡◌, ◌≢◌, ◌∙◌, ℕ, ◌+◌, ◌≤◌, ◌==◌, Bool, true, false, cond, List, [], ◌∷◌, ◌++◌, Option, Some, None, refl, ap, arith}
use Rattle.std.specs.Option.{option_map_or}
use Rattle.std.proofs.lemmas.Bool.{eqb-true}
use Rattle.order_switches.specs.Switches.{changes, changes_after}

abbrev pub eq : ℕ → ℕ → Bool
eq t u = t == u

pub after_more : (x : ℕ) (ys zs : List ℕ) → changes_after eq x ys ≤ changes_after eq x (ys ++ zs)
after_more x [] zs = omega arith
after_more x (y ∷ ys) zs = omega (arith, after_more y ys zs)

-- a longer list has at least as many changes
pub changes_more : (ys zs : List ℕ) → changes eq ys ≤ changes eq (ys ++ zs)
changes_more [] zs = omega arith
changes_more (y ∷ ys) zs = after_more y ys zs

after_join : (x : ℕ) (ys : List ℕ) (y : ℕ) (zs : List ℕ)
    → changes_after eq x ((ys ++ y ∷ []) ++ zs) ≡ changes_after eq x (ys ++ y ∷ []) + changes_after eq y zs
after_join x [] y zs = omega arith
after_join x (z ∷ ys) y zs = omega (arith, after_join z ys y zs)

-- changes of a list, and those after its last element
pub changes_join : (ys : List ℕ) (y : ℕ) (zs : List ℕ) → changes eq ((ys ++ y ∷ []) ++ zs) ≡ changes eq (ys ++ y ∷ []) + changes_after eq y zs
changes_join [] y zs = omega arith
changes_join (x ∷ ys) y zs = after_join x ys y zs

-- between two different elements there is a change
pub changes_between : (x : ℕ) (ys : List ℕ) (y : ℕ) → x ≢ y → 1 ≤ changes_after eq x (ys ++ y ∷ [])
changes_between x [] y differ = by (x == y) refl
  where
    by : (b : Bool) → (x == y) ≡ b → 1 ≤ cond b 0 1 + 0
    by true same = absurd (differ (eqb-true x y same))
    by false _ = omega arith
changes_between x (z ∷ ys) y differ = by (x == z) refl (changes_between z ys y)
  where
    by : (b : Bool) → (x == z) ≡ b → (z ≢ y → 1 ≤ changes_after eq z (ys ++ y ∷ [])) → 1 ≤ cond b 0 1 + changes_after eq z (ys ++ y ∷ [])
    by true same rest = let more = rest (λ one. differ (eqb-true x z same ∙ one)) in omega (arith, more)
    by false _ rest = omega arith

-- the last element
abbrev last_after : ℕ → List ℕ → ℕ
last_after x [] = x
last_after x (y ∷ ys) = last_after y ys

abbrev pub last_of : List ℕ → Option ℕ
last_of [] = None
last_of (x ∷ xs) = Some (last_after x xs)

last_push : (x : ℕ) (ys : List ℕ) (y : ℕ) → last_after x (ys ++ y ∷ []) ≡ y
last_push x [] y = refl
last_push x (z ∷ ys) y = last_push z ys y

pub last_is : (xs : List ℕ) (y : ℕ) → last_of (xs ++ y ∷ []) ≡ Some y
last_is [] y = refl
last_is (x ∷ xs) y = ap (λ z. Some z) (last_push x xs y)

after_push : (x : ℕ) (ys : List ℕ) (y : ℕ) → changes_after eq x (ys ++ y ∷ []) ≡ changes_after eq x ys + cond (last_after x ys == y) 0 1
after_push x [] y = omega arith
after_push x (z ∷ ys) y = omega (arith, after_push z ys y)

-- the changes with one more element
pub changes_push : (xs : List ℕ) (y : ℕ) → changes eq (xs ++ y ∷ []) ≡ changes eq xs + option_map_or (λ x. cond (x == y) 0 1) (last_of xs) 0
changes_push [] y = refl
changes_push (x ∷ xs) y = after_push x xs y
