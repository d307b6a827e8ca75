-- Places that are added to those that wait.
use Rattle.std.proofs.Common.{◌≡◌, ℕ, ◌+◌, List, [], ◌∷◌, ◌++◌, Bool, true, false, Option, Some, None, refl, subst, if◌then◌else◌}
use Rattle.std.specs.Option.{option_map_or}
use Rattle.places.specs.Places.{Place}
use Rattle.places.specs.helpers.Waiting.{Waiting, Adds, AddsAll}

module _ (limits : List ℕ) (after : ℕ → Place) where
  pub adds_append : (xs ys : List ℕ) (old m new : Waiting) → AddsAll limits after xs old m → AddsAll limits after ys m new → AddsAll limits after (xs ++ ys) old new
  adds_append [] ys old m new a b = subst (λ w. AddsAll limits after ys w new) a b
  adds_append (x ∷ xs) ys old m new (n, first, rest) b = (n, first, adds_append xs ys n m new rest b)

  pub one : (to : ℕ) (old new : Waiting) → Adds limits (after to) old new → AddsAll limits after (to ∷ []) old new
  one to old new a = (new, a, refl)

  -- the place at the next instruction is added, and then the one at the target
  pub adds_next : (k : ℕ) (goes : Bool) (old m : Waiting) → (goes ≡ true → Adds limits (after (k + 1)) old m) → (goes ≡ false → m ≡ old)
      → AddsAll limits after (if goes then (k + 1) ∷ [] else []) old m
  adds_next k true old m a b = one (k + 1) old m (a refl)
  adds_next k false old m a b = b refl

  pub adds_target : (to : Option ℕ) (m new : Waiting) → ((t : ℕ) → to ≡ Some t → Adds limits (after t) m new) → (to ≡ None → new ≡ m)
      → AddsAll limits after (option_map_or (λ t. t ∷ []) to []) m new
  adds_target None m new a b = b refl
  adds_target (Some t) m new a b = one t m new (a t refl)
