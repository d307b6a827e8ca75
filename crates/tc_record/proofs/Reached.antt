-- Facts on each state that a run reaches.
use Rattle.std.proofs.Common.{◌≡◌, ◌∙◌, ◌⊎◌, inl, inr, ℕ, ◌+◌, ◌-◌, ◌<◌, ◌≤◌, Bool, true, cond, List, [], ◌∷◌, length, true≢false}
use Rattle.std.proofs.Common.{Option, Some, None, IsSome, refl, ap, sym, subst, arith}
use Rattle.std.specs.Option.{is_some, IfSome, IsSomeAnd}
use Rattle.std.specs.List.{list_any}
use Rattle.std.specs.FinMap as fin
use Rattle.std.specs.Ordering.{nat_cmp}
use Rattle.std.specs.Cmp.Lexicographic.{slice_cmp}
use Rattle.std.proofs.lemmas.Cmp.{nat_list_cmp_total}
use Rattle.std.proofs.lemmas.Option.{none-some}
use Rattle.tc_base.specs.Names.{Name, ByName, main}
use Rattle.tc_base.specs.Buffers.{BufferOps}
use Rattle.tc_base.specs.States.{Thread, State}
use Rattle.tc_base.specs.declared.moves.Move.{Move}
use Rattle.tc_base.specs.declared.moves.Move.TheVariants as move
use Rattle.tc_base.specs.declared.request.Request.{Request}
use Rattle.tc_base.specs.declared.request.Request.TheVariants.{Write, Fail}
use Rattle.tc_code.specs.declared.instr.Instr.{Instr}
use Rattle.tc_code.specs.declared.instr.Instr.TheVariants.{Branch, Create}
use Rattle.tc_code.specs.Code.{Code, instr_at}
use Rattle.tc_code.proofs.Facts.{at_its_place}
use Rattle.tc_code.specs.Step.{step, opening, perform, request, born, step_in_place}
use Rattle.tc_code.specs.Run.{IsReached}
use Rattle.tc_machine.specs.run_laws.Whole.{AllThreads}
use Rattle.tc_machine.proofs.run_laws.Basics.{either, some_is}
use Rattle.tc_machine.proofs.run_laws.After.{branch_is}
use Rattle.tc_machine.proofs.run_laws.Names.{get_put, get_put_cases, get_put_apart, child_apart}
use Rattle.tc_machine.proofs.run_laws.Steps.{Went, step_went, none_failed, holds_in_reached}
use Rattle.tc_machine.proofs.run_laws.Changes.{Goes, Went_on, Stayed, step_changes}
use Rattle.tc_machine.proofs.run_laws.Created.{child_is_new}
use Rattle.tc_machine.specs.run_laws.Alone.{same}
use Rattle.tc_machine.proofs.run_laws.Main.{main_is_there, thread_stays}
use Rattle.tc_record.specs.helpers.Paths.{HasThreads}

module _ {B : Type 0} (ops : BufferOps B) (code : Code) where
  -- The thread that has failed exists.

  -- an instruction can only fail its own thread
  fails_alone : (s : State B) (n : Name) (t : Thread B) (i : Instr) (r : Request) → ((perform ops code s n t i r).failed ≡ s.failed)
      ⊎ ((perform ops code s n t i r).failed ≡ Some n)
  fails_alone s n t i Fail = inr refl
  fails_alone s n t i (Write c v) = inl (either (λ (u : State B). u.failed ≡ s.failed) ops.buffered _ _ refl refl)
  fails_alone s n t i _ = inl refl

  -- a move can only fail the thread that makes it
  failed_after : (s u : State B) (m : Move) → Went ops code s u m → s.failed ≡ None
      → (u.failed ≡ None) ⊎ ((n : Name) × (u.failed ≡ Some n) × IsSome (fin.get s.threads n))
  failed_after s u (move.Run n) w none =
      elim (fails_alone s n w.thread w.instr (request w.thread.local w.instr)) [
        | inl same ↦ inl (ap (λ (v : State B). v.failed) w.after ∙ same ∙ none)
        | inr fails ↦ inr (n, ap (λ (v : State B). v.failed) w.after ∙ fails, some_is _ w.thread w.there)
      ]
  failed_after s u (move.Wake n v) w none = inl (ap (λ (v : State B). v.failed) w.after ∙ none)
  failed_after s u (move.Drain n form) w none = inl (ap (λ (v : State B). v.failed) w.after ∙ none)

  abbrev FailedIsThere : State B → Type 0
  FailedIsThere u = IfSome u.failed (λ n. IsSome (fin.get u.threads n))

  failed_there : (s u : State B) (m : Move) → step ops code s m ≡ Some u → FailedIsThere u
  failed_there s u m one =
      elim (failed_after s u m (step_went ops code s u m one) (none_failed ops code s u m one)) [
        | inl none ↦ subst (λ o. IfSome o (λ n. IsSome (fin.get u.threads n))) (sym none) tt
        | inr is ↦ subst (λ o. IfSome o (λ n. IsSome (fin.get u.threads n))) (sym is.1) (thread_stays ops code is.0 s u m one is.2)
      ]

  some_and : (o : Option Name) (P : Name → Type 0) → IsSome o → IfSome o P → IsSomeAnd o P
  some_and None P some h = absurd (none-some_is some)
    where
      none-some_is : IsSome {T = Name} None → ⊥
      none-some_is some = cc
  some_and (Some n) P some h = h

  -- if some listed name passes, the list isn't empty
  some_listed : (p : Name → Bool) (ns : List Name) → list_any p ns ≡ true → 0 < length ns
  some_listed p [] h = absurd (true≢false (sym h))
  some_listed p (n ∷ ns) h = omega arith

  pub has_threads : (s : State B) → IsReached ops code s → HasThreads s
  has_threads s r = record {
    some = some_listed (same main) (fin.keys s.threads) (sym (fin.contains_key-keys s.threads main) ∙ main_is_there ops code s r);
    failed = holds_in_reached ops code FailedIsThere tt (λ v u m w one h. failed_there v u m one) s r;
  }

  -- The thread that has failed is at its failing instruction.

  -- there is an instruction at the place of this thread
  abbrev IsAt : State B → Name → Type 0
  IsAt u n = IsSomeAnd (fin.get u.threads n) (λ t. IsSome (instr_at code t.local.function t.local.instruction))

  abbrev FailedAt : State B → Type 0
  FailedAt u = IfSome u.failed (IsAt u)

  none_at : (u : State B) → u.failed ≡ None → FailedAt u
  none_at u none = subst (λ o. IfSome o (IsAt u)) (sym none) tt

  fails_at : (s : State B) (n : Name) (t : Thread B) (i : Instr) (r : Request) → s.failed ≡ None → instr_at code t.local.function t.local.instruction ≡ Some i
      → FailedAt (perform ops code s n t i r)
  fails_at s n t i Fail none at =
      subst (λ o. IsSomeAnd o (λ u. IsSome (instr_at code u.local.function u.local.instruction)))
      (sym (get_put s.threads n (record t { local = step_in_place t.local }))) (some_is _ i at)
  fails_at s n t i (Write c v) none at =
      none_at (perform ops code s n t i (Write c v)) (either (λ (u : State B). u.failed ≡ None) ops.buffered _ _ none none)
  fails_at s n t i r none at = none_at (perform ops code s n t i r) none

  failed_at : (s u : State B) (m : Move) → Went ops code s u m → s.failed ≡ None → FailedAt u
  failed_at s u (move.Run n) w none =
      subst FailedAt (sym w.after) (fails_at s n w.thread w.instr (request w.thread.local w.instr) none (at_its_place code w.thread.local w.instr w.at))
  failed_at s u (move.Wake n v) w none = none_at u (ap (λ (v : State B). v.failed) w.after ∙ none)
  failed_at s u (move.Drain n form) w none = none_at u (ap (λ (v : State B). v.failed) w.after ∙ none)

  pub fails_at_place : (s : State B) → IsReached ops code s → IsSome s.failed → IsSomeAnd s.failed (IsAt s)
  fails_at_place s r some =
      some_and s.failed _ some (holds_in_reached ops code FailedAt tt
      (λ v u m w one h. failed_at v u m (step_went ops code v u m one) (none_failed ops code v u m one)) s r)

  -- There are more threads than children of any of them.

  abbrev HasMore : State B → Type 0
  HasMore s = AllThreads (λ t. t.children + 1 ≤ fin.len s.threads) s.threads

  -- each thread still has fewer than `k` children with one such thread put in
  put_fits : (k : ℕ) (threads : ByName (Thread B)) (n : Name) (new : Thread B) → AllThreads (λ t. t.children + 1 ≤ k) threads → new.local.children + 1 ≤ k
      → AllThreads (λ t. t.children + 1 ≤ k) (fin.insert threads n new)
  put_fits k threads n new all fits q t there =
      elim (get_put_cases threads n new q t there) [
        | inl is ↦ subst (λ (x : Thread B). x.local.children + 1 ≤ k) is.1 fits
        | inr was ↦ all q t was.1
      ]

  -- a put under an existing name doesn't change the number of threads
  len_put : (threads : ByName (Thread B)) (n : Name) (new old : Thread B) → fin.get threads n ≡ Some old → fin.len (fin.insert threads n new) ≡ fin.len threads
  len_put threads n new old there =
      fin.len-insert nat_list_cmp_total threads n new
      ∙ ap (λ (o : Option (Thread B)). cond (is_some o) (fin.len threads) (fin.len threads + 1)) there

  len_put_new : (threads : ByName (Thread B)) (n : Name) (new : Thread B) → fin.get threads n ≡ None → fin.len (fin.insert threads n new) ≡ fin.len threads + 1
  len_put_new threads n new none =
      fin.len-insert nat_list_cmp_total threads n new
      ∙ ap (λ (o : Option (Thread B)). cond (is_some o) (fin.len threads) (fin.len threads + 1)) none

  module _ (s : State B) (n : Name) (old new : Thread B) (there : fin.get s.threads n ≡ Some old) (fits : HasMore s) where
    same_fits : (u : State B) → u.threads ≡ fin.insert s.threads n new → new.local.children ≡ old.local.children → HasMore u
    same_fits u threads same =
        let len : fin.len u.threads ≡ fin.len s.threads = ap fin.len threads ∙ len_put s.threads n new old there in
        let all = put_fits (fin.len s.threads) s.threads n new fits (omega (arith, same, fits n old there)) in
        subst (λ k. AllThreads (λ t. t.children + 1 ≤ k) u.threads) (sym len)
        (subst (AllThreads (λ t. t.children + 1 ≤ fin.len s.threads)) (sym threads) all)

    more_fits : (u : State B) (c : Name) (baby : Thread B) → u.threads ≡ fin.insert (fin.insert s.threads n new) c baby
        → fin.get (fin.insert s.threads n new) c ≡ None → new.local.children ≡ old.local.children + 1 → baby.local.children ≡ 0 → HasMore u
    more_fits u c baby threads none more fresh =
        let len : fin.len u.threads ≡ fin.len s.threads + 1 =
        ap fin.len threads ∙ len_put_new (fin.insert s.threads n new) c baby none ∙ ap (λ k. k + 1) (len_put s.threads n new old there) in
        let k = fin.len s.threads + 1 in
        let wide : AllThreads (λ t. t.children + 1 ≤ k) s.threads = λ q t is. omega (arith, fits q t is) in
        let first = put_fits k s.threads n new wide (omega (arith, more, fits n old there)) in
        let all = put_fits k (fin.insert s.threads n new) c baby first (omega (arith, fresh)) in
        subst (λ j. AllThreads (λ t. t.children + 1 ≤ j) u.threads) (sym len)
        (subst (AllThreads (λ t. t.children + 1 ≤ k)) (sym threads) all)

  goes_fits : (s u : State B) (n : Name) (i : Instr) → IsReached ops code s → Goes ops code s u n i → HasMore s → HasMore u
  goes_fits s u n (Create h f es) r g fits =
      let new = get_put_apart s.threads n g.after _ (child_apart n _) ∙ child_is_new ops code s n g.before r g.there in
      more_fits s n g.before g.after g.there fits u _ _ g.threads new (ap (λ t. t.children) g.local) refl
  goes_fits s u n (Branch e to) r g fits = same_fits s n g.before g.after g.there fits u g.threads (ap (λ t. t.children) (g.local ∙ branch_is g.before.local
      _ to))
  goes_fits s u n _ r g fits = same_fits s n g.before g.after g.there fits u g.threads (ap (λ t. t.children) g.local)

  step_fits : (s u : State B) (m : Move) → IsReached ops code s → step ops code s m ≡ Some u → HasMore s → HasMore u
  step_fits s u m r one fits =
      elim (step_changes ops code s u m one) [
        | Went_on n i g ↦ goes_fits s u n i r g fits
        | Stayed n g ↦ same_fits s n g.before g.after g.there fits u g.threads (ap (λ t. t.children) g.local)
      ]

  opening_fits : HasMore (opening ops code)
  opening_fits =
      let first = born ops code (length code.functions - 1) [] in
      let one = len_put_new fin.empty main first (fin.get-empty (slice_cmp nat_cmp) main) in
      put_fits _ fin.empty main first (λ n t there. absurd (none-some t (sym (fin.get-empty (slice_cmp nat_cmp) n) ∙ there))) (omega (arith, one))

  -- each thread has fewer children than there are threads
  pub children_fit : (s : State B) → IsReached ops code s → HasMore s
  children_fit = holds_in_reached ops code HasMore opening_fits (λ s u m r one fits. step_fits s u m r one fits)
