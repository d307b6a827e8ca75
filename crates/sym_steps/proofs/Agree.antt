-- Loads still agree after one more deed.
use Rattle.std.proofs.Common.{◌≡◌, ◌∙◌, ◌⊎◌, inl, inr, ℕ, zero, suc, ℤ, pos, List, [], ◌∷◌, ◌++◌, Option, Some, sym, ap, slice_index_or}
use Rattle.std.specs.Prelude.{slice_get}
use Rattle.std.proofs.lemmas.Option.{none-some, same_Some}
use Rattle.order_events.specs.tc_base.Names.{Name}
use Rattle.order_events.specs.tc_base.declared.request.Request.{Request}
use Rattle.sym_laws.specs.run_history.History.{Deed, Did, Drained}
use Rattle.sym_laws.specs.run_history.pending.Deeds.{name_of}
use Rattle.sym_laws.specs.sym_exec.Executed.{Course, Symbolic}
use Rattle.sym_laws.specs.sym_exec.declared.symbolic.Access.{Access}
use Rattle.sym_laws.specs.Valued.{IsOneOf, AgreesWith}
use Rattle.sym_laws.proofs.Lists.{in_front}

-- an element of a list with one appended is that one, or was in the list
of_push : {X : Type 0} (xs : List X) (x y : X) → IsOneOf y (xs ++ x ∷ []) → IsOneOf y xs ⊎ (x ≡ y)
of_push {X} xs x y is = by xs is.0 is.1
  where
    by : (xs : List X) (k : ℕ) → slice_get (xs ++ x ∷ []) k ≡ Some y → IsOneOf y xs ⊎ (x ≡ y)
    by [] zero at = inr (same_Some x y at)
    by [] (suc k) at = absurd (none-some y at)
    by (z ∷ xs) zero at = inl (0, at)
    by (z ∷ xs) (suc k) at = elim (by xs k at) [ inl i ↦ inl (suc i.0, i.1) | inr e ↦ inr e ]

pub agree_step : (symbolic : Symbolic) (loads : List ℤ) (h : List Deed) (n : Name) (k : ℕ) (r : Request) (took : ℤ) (other : Option Name)
    → AgreesWith symbolic loads h
    → ((c : Course) (a : Access) (m : ℕ) → IsOneOf c symbolic.threads → IsOneOf a c.accesses → c.name ≡ n → a.step ≡ k → a.takes ≡ Some m
    → slice_index_or loads m (pos 0) ≡ took)
    → AgreesWith symbolic loads (h ++ Did n k r took other ∷ [])
agree_step symbolic loads h n k r took other agrees takes c a m r' took' other' ic ia is one =
    elim (of_push h (Did n k r took other) (Did c.name a.step r' took' other') one) [
      | inl before ↦ agrees c a m r' took' other' ic ia is before
      | inr same ↦
          let name = ap name_of same in
          let value : took ≡ took' = cc in
          takes c a m ic ia (sym (ap (λ x. x.thread) name)) (sym (ap (λ x. x.number) name)) is ∙ value
    ]

pub agree_drain : (symbolic : Symbolic) (loads : List ℤ) (h : List Deed) (n : Name) (k c : ℕ) (v : ℤ) → AgreesWith symbolic loads h
    → AgreesWith symbolic loads (h ++ Drained n k c v ∷ [])
agree_drain symbolic loads h n k cell v agrees c a m r took other ic ia is one =
    elim (of_push h (Drained n k cell v) (Did c.name a.step r took other) one) [
      | inl before ↦ agrees c a m r took other ic ia is before
      | inr same ↦ absurd cc
    ]

pub agree_first : (symbolic : Symbolic) (loads : List ℤ) (first later : List Deed) → AgreesWith symbolic loads (first ++ later) → AgreesWith symbolic loads first
agree_first symbolic loads first later agrees c a m r took other ic ia is one =
    agrees c a m r took other ic ia is (in_front (Did c.name a.step r took other) first later one)
