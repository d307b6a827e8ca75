-- Owners of mutexes that differ only in what one thread has acquired.
use Rattle.std.proofs.Common.{◌≡◌, ◌∙◌, ◌⊎◌, inl, inr, ℕ, zero, suc, List, [], ◌∷◌, length, Option, Some, None, refl, sym, ap, ap₂, subst, arith}
use Rattle.std.proofs.Common.{slice_set, slice_index_or}
use Rattle.std.proofs.lemmas.List.{length-set}
use Rattle.std.proofs.lemmas.Option.{none-some}
use Rattle.run_laws.specs.tc_base.Names.{Name}
use Rattle.run_laws.proofs.Basics.{index_or-set_cases}

abbrev pub Owners : Type 0
Owners = List (Option Name)

-- the owner of a mutex
abbrev pub owner : Owners → ℕ → Option Name
owner os m = slice_index_or os m None

-- what a relation of owners has to keep so that other threads can do the same
pub record Keeping (Related : Owners → Owners → Type 0) : Type 0 where
  pub sets : (os ps : Owners) (m : ℕ) (x : Option Name) → Related os ps → Related (slice_set os m x) (slice_set ps m x)
  pub frees : (os ps : Owners) (m : ℕ) → Related os ps → owner os m ≡ None → owner ps m ≡ None

-- equal owners
abbrev pub Equal : Owners → Owners → Type 0
Equal os ps = os ≡ ps

pub equal_keeps : Keeping Equal
equal_keeps = record { sets = λ os ps m x same. ap (λ ns. slice_set ns m x) same; frees = λ os ps m same free. ap (λ ns. owner ns m) (sym same) ∙ free }

module _ (n : Name) where
  -- the owners are the same, or the first is the thread and the second is none
  abbrev Taken : Option Name → Option Name → Type 0
  Taken o p = (o ≡ p) ⊎ ((o ≡ Some n) × (p ≡ None))

  -- the thread may own more in the first
  pub record OwnsMore (os ps : Owners) : Type 0 where
    pub count : length os ≡ length ps
    pub each : (m : ℕ) → Taken (owner os m) (owner ps m)

  set_taken : (os ps : Owners) (j k : ℕ) (x : Option Name) → length os ≡ length ps → Taken (owner os k) (owner ps k)
      → Taken (owner (slice_set os j x) k) (owner (slice_set ps j x) k)
  set_taken [] [] j k x same taken = inl refl
  set_taken [] (p ∷ ps) j k x same taken = absurd (omega (arith, same))
  set_taken (o ∷ os) [] j k x same taken = absurd (omega (arith, same))
  set_taken (o ∷ os) (p ∷ ps) zero zero x same taken = inl refl
  set_taken (o ∷ os) (p ∷ ps) zero (suc k) x same taken = taken
  set_taken (o ∷ os) (p ∷ ps) (suc j) zero x same taken = taken
  set_taken (o ∷ os) (p ∷ ps) (suc j) (suc k) x same taken = set_taken os ps j k x (omega (arith, same)) taken

  free_too : (o p : Option Name) → Taken o p → o ≡ None → p ≡ None
  free_too o p (inl same) free = sym same ∙ free
  free_too o p (inr taken) free = absurd (none-some n (sym free ∙ taken.0))

  pub more_keeps : Keeping OwnsMore
  more_keeps = record {
    sets = λ os ps m x more. record {
      count = length-set os m x ∙ more.count ∙ sym (length-set ps m x);
      each = λ k. set_taken os ps m k x more.count (more.each k);
    };
    frees = λ os ps m more free. free_too (owner os m) (owner ps m) (more.each m) free;
  }

  pub equal_is_more : (os : Owners) → OwnsMore os os
  equal_is_more os = record { count = refl; each = λ m. inl refl }

  -- the thread acquires or releases a mutex that has no owner in the second
  sets_first : (os ps : Owners) (m : ℕ) (x : Option Name) → owner ps m ≡ None → (x ≡ Some n) ⊎ (x ≡ None) → OwnsMore os ps → OwnsMore (slice_set os m x) ps
  sets_first os ps m x free own more = record {
    count = length-set os m x ∙ more.count;
    each = λ k. elim (index_or-set_cases os m k x None) [
      | inl is ↦ now k is own
      | inr was ↦ subst (λ o. Taken o (owner ps k)) (sym was) (more.each k)
    ];
  }
    where
      now : (k : ℕ) → (k ≡ m) × (owner (slice_set os m x) k ≡ x) → (x ≡ Some n) ⊎ (x ≡ None) → Taken (owner (slice_set os m x) k) (owner ps k)
      now k is (inl some) = inr (is.1 ∙ some, ap (owner ps) is.0 ∙ free)
      now k is (inr none) = inl (is.1 ∙ none ∙ sym (ap (owner ps) is.0 ∙ free))

  pub takes_first : (os ps : Owners) (m : ℕ) → owner ps m ≡ None → OwnsMore os ps → OwnsMore (slice_set os m (Some n)) ps
  takes_first os ps m free more = sets_first os ps m (Some n) free (inl refl) more

  pub leaves_first : (os ps : Owners) (m : ℕ) → owner ps m ≡ None → OwnsMore os ps → OwnsMore (slice_set os m None) ps
  leaves_first os ps m free more = sets_first os ps m None free (inr refl) more

-- lists with the same owner of each mutex are the same
pub same_owners : (os ps : Owners) → length os ≡ length ps → ((m : ℕ) → owner os m ≡ owner ps m) → os ≡ ps
same_owners [] [] same each = refl
same_owners [] (p ∷ ps) same each = absurd (omega (arith, same))
same_owners (o ∷ os) [] same each = absurd (omega (arith, same))
same_owners (o ∷ os) (p ∷ ps) same each = ap₂ (λ x xs. x ∷ xs) (each 0) (same_owners os ps (omega (arith, same)) (λ m. each (suc m)))
