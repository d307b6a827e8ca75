-- Waiters and owners of mutexes.
use Rattle.std.proofs.Common.{◌≡◌, ◌↔◌, ◌∙◌, inl, inr, ℕ, ◌==◌, true, false, List, Option, Some, None, refl, sym, ap}
use Rattle.std.specs.FinSet as set
use Rattle.std.proofs.lemmas.Bool.{true≢false, cases_Bool, eqb-true}
use Rattle.std.proofs.lemmas.Option.{none-some}
use Rattle.run_history.specs.tc_base.Names.{Name, by_name}
use Rattle.run_history.proofs.run_laws.Names.{some_in}
use Rattle.run_history.specs.History.{Deed}
use Rattle.run_history.specs.Last.{IsLast}
use Rattle.run_history.specs.Told.{owner_by, owner_in, waiting_in}
use Rattle.run_history.proofs.Last.{owners_are_last}

pub nobody_waits : (h : List Deed) (c : ℕ) → ((set.len (waiting_in h c) == 0) ≡ true) ↔ ((n : Name) → set.contains (waiting_in h c) n ≡ false)
nobody_waits h c = (
  λ none n.
      ap (λ ns. set.contains ns n) (set.empty_of_len (waiting_in h c) (eqb-true (set.len (waiting_in h c)) 0 none)) ∙ set.contains-empty by_name n,
  λ none.
      elim (cases_Bool (set.len (waiting_in h c) == 0)) [
        | inl empty ↦ empty
        | inr some ↦ let u = some_in (waiting_in h c) some in absurd (true≢false (sym u.1 ∙ none u.0))
      ],
)

-- an owner that isn't any thread is none
none_of : (o : Option Name) → ((n : Name) → o ≡ Some n → ⊥) → o ≡ None
none_of None none = refl
none_of (Some n) none = absurd (none n refl)

pub nobody_owns : (h : List Deed) (m : ℕ) → (owner_in h m ≡ None) ↔ ((n : Name) → IsLast (owner_by m) h (Some n) → ⊥)
nobody_owns h m = (
  λ free n last. none-some n (sym free ∙ (owners_are_last h m n).1 last),
  λ none. none_of (owner_in h m) (λ n owns. none n ((owners_are_last h m n).0 owns)),
)
