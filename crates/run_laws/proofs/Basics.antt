-- Tests, options and lists.
use Rattle.std.proofs.Common.{◌≡◌, ◌⊎◌, inl, inr, ℕ, zero, suc, List, [], ◌∷◌, Bool, true, false, IsTrue, cond, IsSome}
use Rattle.std.proofs.Common.{Option, Some, None, refl, ap, sym, subst, replicate, slice_set, slice_index_or, true≢false}
use Rattle.std.specs.Option.{option_map_or}
use Rattle.std.proofs.lemmas.Option.{none-some}

-- an option whose value passes a test has a value
pub found : {A : Type 0} (p : A → Bool) (o : Option A) → IsTrue (option_map_or p o false) → (x : A) × (o ≡ Some x) × IsTrue (p x)
found p None h = absurd (true≢false (sym h))
found p (Some x) h = (x, refl, h)

-- a value under a test shows that the test is false
pub unless : {A : Type 0} (b : Bool) (o : Option A) (x : A) → cond b None o ≡ Some x → (b ≡ false) × (o ≡ Some x)
unless true o x h = absurd (none-some x h)
unless false o x h = (refl, h)

-- an option that equals a value has one
pub some_is : {X : Type 0} (o : Option X) (x : X) → o ≡ Some x → IsSome o
some_is o x e = subst IsSome (sym e) refl

-- an option that has a value equals it
pub some_value : {X : Type 0} (o : Option X) → IsSome o → (x : X) × (o ≡ Some x)
some_value None h = absurd (true≢false (sym h))
some_value (Some x) h = (x, refl)

-- an option that can't have a value has none
pub none_unless : {X : Type 0} (o : Option X) → (IsSome o → ⊥) → o ≡ None
none_unless None h = refl
none_unless (Some x) h = absurd (h refl)

-- each element of a list of defaults is the default
pub index_or-replicate : {X : Type 0} (n k : ℕ) (d : X) → slice_index_or (replicate n d) k d ≡ d
index_or-replicate zero k d = refl
index_or-replicate (suc n) zero d = refl
index_or-replicate (suc n) (suc k) d = index_or-replicate n k d

-- writing the default at a place makes it read as the default
pub index_or-set_default : {X : Type 0} (xs : List X) (k : ℕ) (d : X) → slice_index_or (slice_set xs k d) k d ≡ d
index_or-set_default [] k d = refl
index_or-set_default (x ∷ xs) zero d = refl
index_or-set_default (x ∷ xs) (suc k) d = index_or-set_default xs k d

-- an element after a write is the written one or an old one
pub index_or-set_cases : {X : Type 0} (xs : List X) (k j : ℕ) (x d : X)
    → ((j ≡ k) × (slice_index_or (slice_set xs k x) j d ≡ x)) ⊎ (slice_index_or (slice_set xs k x) j d ≡ slice_index_or xs j d)
index_or-set_cases [] k j x d = inr refl
index_or-set_cases (y ∷ ys) zero zero x d = inl (refl, refl)
index_or-set_cases (y ∷ ys) zero (suc j) x d = inr refl
index_or-set_cases (y ∷ ys) (suc k) zero x d = inr refl
index_or-set_cases (y ∷ ys) (suc k) (suc j) x d = elim (index_or-set_cases ys k j x d) [ inl is ↦ inl (ap suc is.0, is.1) | inr was ↦ inr was ]

-- a property of both bools holds for any bool
pub by_bool : (P : Bool → Type 0) (b : Bool) → P true → P false → P b
by_bool P true p q = p
by_bool P false p q = q

-- a property of two things holds for the one that a bool selects
pub either : {A : Type 0} (P : A → Type 0) (b : Bool) (x y : A) → P x → P y → P (cond b x y)
either P b x y p q = by_bool (λ c. P (cond c x y)) b p q
