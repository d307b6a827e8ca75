-- Walks over lists, and the meaning of names in two lists.
use Rattle.std.proofs.Common.{
  ◌≡◌,
  ℕ,
  zero,
  suc,
  ◌+◌,
  ◌<◌,
  List,
  [],
  ◌∷◌,
  ◌++◌,
  length,
  take,
  drop,
  Option,
  Some,
  None,
  Bool,
  true,
  false,
  bytes_eq,
  refl,
  ap,
  arith,
  if◌then◌else◌,
}
use Rattle.tc_tree.specs.declared.expression.Name.{Name}
use Rattle.tc_names.specs.declared.scope.Declaration.{Declaration}
use Rattle.tc_names.specs.declared.scope.Meaning.{Meaning}
use Rattle.tc_names.specs.Names.{name_text, meaning_in}

-- a walk is one element further in a list
pub record IsNext {A : Type 0} (xs : List A) (n : ℕ) (x : A) (later : List A) : Type 0 where
  pub taken : take (n + 1) xs ≡ take n xs ++ x ∷ []
  pub left : drop (n + 1) xs ≡ later
  pub within : n < length xs

next_suc : {A : Type 0} (y : A) (ys : List A) (n : ℕ) (x : A) (later : List A) → IsNext ys n x later → IsNext (y ∷ ys) (suc n) x later
next_suc y ys n x later h =
    let e : suc n + 1 ≡ suc (n + 1) = omega arith in
    record {
      taken = rw e (ap (λ zs. y ∷ zs) h.taken);
      left = rw e h.left;
      within = omega (arith, h.within);
    }

pub next : {A : Type 0} (xs : List A) (n : ℕ) (x : A) (later : List A) → drop n xs ≡ x ∷ later → IsNext xs n x later
next [] zero x later e = absurd cc
next [] (suc n) x later e = absurd cc
next (y ∷ ys) zero x later e = record { taken = let h : y ≡ x = cc in ap (λ z. z ∷ []) h; left = cc; within = omega arith }
next (y ∷ ys) (suc n) x later e = next_suc y ys n x later (next ys n x later e)

either : (b : Bool) (m : Meaning) (r s : Option Meaning) (n : Meaning) → (r ≡ Some n → s ≡ Some n) → (if b then Some m else r) ≡ Some n
    → (if b then Some m else s) ≡ Some n
either true m r s n h e = e
either false m r s n h e = h e

-- a name that the first list declares means the same in both lists
pub found_first : (source : List ℕ) (own all : List Declaration) (x : Name) (m : Meaning) → meaning_in source own x ≡ Some m
    → meaning_in source (own ++ all) x ≡ Some m
found_first source [] all x m e = absurd cc
found_first source (d ∷ ds) all x m e = either (bytes_eq (name_text source d.name) (name_text source x)) d.meaning (meaning_in source ds x)
    (meaning_in source (ds ++ all) x) m (found_first source ds all x m) e

neither : (b : Bool) (m : Meaning) (r s t : Option Meaning) → (r ≡ None → s ≡ t) → (if b then Some m else r) ≡ None → (if b then Some m else s) ≡ t
neither true m r s t h e = absurd cc
neither false m r s t h e = h e

-- any other name means the same as in the second list
pub found_second : (source : List ℕ) (own all : List Declaration) (x : Name) → meaning_in source own x ≡ None
    → meaning_in source (own ++ all) x ≡ meaning_in source all x
found_second source [] all x e = refl
found_second source (d ∷ ds) all x e = neither (bytes_eq (name_text source d.name) (name_text source x)) d.meaning (meaning_in source ds x)
    (meaning_in source (ds ++ all) x) (meaning_in source all x) (found_second source ds all x) e
