-- The places that were found and not yet gone on from, by their keys.
use Rattle.std.specs.Prelude.{◌≡◌, ℕ, true, false, List, [], ◌∷◌, Vec}
use Rattle.std.specs.Global.{Global}
use Rattle.std.specs.BTreeMap.{insert_entry}
use Rattle.std.specs.Cmp.Lexicographic.{slice_cmp}
use Rattle.std.specs.Ordering.{nat_cmp}
use Rattle.std.specs.declared.cmp.Ordering.{Ordering}
use Rattle.places.specs.Places.{Place, key, is_cut}

abbrev pub Waiting : Type 0
Waiting = List (Vec ℕ Global × Place)

abbrev pub by_items : Vec ℕ Global → Vec ℕ Global → Ordering
by_items v w = slice_cmp nat_cmp v.items w.items

-- a place is added by its key, unless it is past a cut
pub record Adds (limits : List ℕ) (q : Place) (old new : Waiting) : Type 0 where
  pub cut : is_cut limits q ≡ true → new ≡ old
  pub there : is_cut limits q ≡ false
      → (k : Vec ℕ Global) × (k.items ≡ key q) × (new ≡ insert_entry by_items old k q)

-- the places after steps to these instructions are added, one after another
abbrev pub AddsAll : (limits : List ℕ) → (ℕ → Place) → List ℕ → (old new : Waiting) → Type 0
AddsAll limits after [] old new = new ≡ old
AddsAll limits after (to ∷ tos) old new =
    (m : Waiting) × Adds limits (after to) old m × AddsAll limits after tos m new
