-- Lists made of each two elements of another list.
use Rattle.std.proofs.Common.{◌≡◌, ℕ, zero, suc, ◌<◌, List, [], ◌∷◌, Some, inl, inr, sym, subst, arith}
use Rattle.std.specs.Prelude.{slice_get}
use Rattle.std.specs.List.{Contains, flat_map}
use Rattle.std.proofs.lemmas.Option.{none-some, same_Some}
use Rattle.std.proofs.lemmas.List.Elements.{Contains-append_left, Contains-append_right, Contains-append_cases}
use Rattle.sync_order.specs.Mutexes.{of_pairs}
use Rattle.order_events.proofs.Lists.{in_front, in_back, of_nil, at_in, in_flat_map, of_flat_map}

module _ {A X : Type 0} (f : A → A → List X) where
  pub in_pairs : (i j : ℕ) (a b : A) (y : X) (xs : List A) → slice_get xs i ≡ Some a → slice_get xs j ≡ Some b → i < j → Contains (f a b) y
      → Contains (of_pairs f xs) y
  in_pairs i j a b y [] first second less there = absurd (none-some a first)
  in_pairs i zero a b y (x ∷ xs) first second less there = absurd (omega (arith, less))
  in_pairs zero (suc j) a b y (x ∷ xs) first second less there =
      Contains-append_left (flat_map (f x) xs) (of_pairs f xs) y
      (in_flat_map (f x) b y xs (at_in xs j b second) (subst (λ c. Contains (f c b) y) (same_Some a x (sym first)) there))
  in_pairs (suc i) (suc j) a b y (x ∷ xs) first second less there =
      Contains-append_right (flat_map (f x) xs) (of_pairs f xs) y (in_pairs i j a b y xs first second (omega (arith, less)) there)

  pub record IsOfPair (xs : List A) (y : X) : Type 0 where
    pub first : A
    pub second : A
    pub has_first : Contains xs first
    pub has_second : Contains xs second
    pub there : Contains (f first second) y

  pub in_of_pairs : (xs : List A) (y : X) → Contains (of_pairs f xs) y → IsOfPair xs y
  in_of_pairs [] y i = absurd (of_nil y i)
  in_of_pairs (x ∷ xs) y i = elim (Contains-append_cases (flat_map (f x) xs) (of_pairs f xs) y i) [
    | inl here ↦
        let o = of_flat_map (f x) y xs here in
        record { first = x; second = o.0; has_first = in_front x xs; has_second = in_back o.0 x xs o.1; there = o.2 }
    | inr later ↦
        let o = in_of_pairs xs y later in
        record {
          first = o.first;
          second = o.second;
          has_first = in_back o.first x xs o.has_first;
          has_second = in_back o.second x xs o.has_second;
          there = o.there;
        }
  ]
