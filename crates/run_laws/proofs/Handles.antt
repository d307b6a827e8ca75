-- The names in thread variables are children.
use Rattle.std.proofs.Common.{◌≡◌, inl, inr, ℕ, ◌+◌, ◌≤◌, ℤ, List, [], IsTrue, refl, sym, subst, arith, le_refl, slice_set, slice_index_or}
use Rattle.std.proofs.lemmas.List.{same_from_push}
use Rattle.std.specs.FinMap as fin
use Rattle.tc_code.specs.tc_base.Names.{Name, child}
use Rattle.tc_code.specs.tc_base.Buffers.{BufferOps}
use Rattle.tc_code.specs.tc_base.States.{Local, Thread, State}
use Rattle.tc_code.specs.tc_base.declared.handle.Handle.{Handle}
use Rattle.tc_code.specs.tc_base.declared.handle.Handle.TheVariants.{Unset, Child, Joined}
use Rattle.tc_code.specs.declared.instr.Instr.{Instr}
use Rattle.tc_code.specs.declared.instr.Instr.TheVariants.{Branch, Create, Join}
use Rattle.tc_code.specs.Code.{Code}
use Rattle.tc_code.specs.Step.{local_after, handle_of, child_number, child_has_exited, handles_of, born}
use Rattle.tc_code.specs.Run.{IsReached}
use Rattle.run_laws.specs.Laws.{IsChildOf, ThreadsAreCreated, HoldsChild, HandlesAreChildren}
use Rattle.run_laws.specs.Whole.{AllThreads}
use Rattle.run_laws.proofs.Basics.{found, some_is, index_or-replicate, index_or-set_cases}
use Rattle.run_laws.proofs.Names.{child_not_main}
use Rattle.run_laws.proofs.After.{branch_is}
use Rattle.run_laws.proofs.Changes.{Goes}
use Rattle.run_laws.proofs.AllThreads.{Keeps, all_in_reached}
use Rattle.run_laws.proofs.Created.{reached_is_created}

-- a child of a thread stays its child as its number of children grows
still_child : (t u : Local) (x : Handle) → t.children ≤ u.children → HoldsChild t x → HoldsChild u x
still_child t u Unset more is = tt
still_child t u (Child k) more is = record { first = is.first; last = omega (arith, is.last, more) }
still_child t u (Joined k) more is = record { first = is.first; last = omega (arith, is.last, more) }

-- unchanged thread variables hold children
still_children : (t u : Local) → u.handles ≡ t.handles → t.children ≤ u.children → HandlesAreChildren t → HandlesAreChildren u
still_children t u same more all h =
    still_child t u (handle_of u h) more (subst (λ hs. HoldsChild t (slice_index_or hs h Unset)) (sym same) (all h))

-- thread variables hold children after one of them is set to a child
still_children_after : (t u : Local) (k : ℕ) (x : Handle) → u.handles ≡ slice_set t.handles k x → t.children ≤ u.children → HoldsChild u x
    → HandlesAreChildren t → HandlesAreChildren u
still_children_after t u k x written more is all h =
    subst (λ hs. HoldsChild u (slice_index_or hs h Unset)) (sym written)
    (elim (index_or-set_cases t.handles k h x Unset) [
      | inl new ↦ subst (HoldsChild u) (sym new.1) is
      | inr old ↦ subst (HoldsChild u) (sym old) (still_child t u (handle_of t h) more (all h))
    ])

-- the child for which a join waits, if the thread variable holds one
joined_child : (t : Local) (x : Handle) → HoldsChild t x → (child_number x ≡ 0 → ⊥) → IsChildOf t (child_number x)
joined_child t Unset is some = absurd (some refl)
joined_child t (Child k) is some = is
joined_child t (Joined k) is some = absurd (some refl)

module _ {B : Type 0} (ops : BufferOps B) (code : Code) where
  -- a new thread holds no child
  born_has_none : (f : ℕ) (vs : List ℤ) → HandlesAreChildren (born ops code f vs).local
  born_has_none f vs h = subst (HoldsChild (born ops code f vs).local) (sym (index_or-replicate (handles_of code f) h Unset)) tt

  -- no child has the number 0
  no_child_zero : (s : State B) (n : Name) → ThreadsAreCreated s → IsTrue (child_has_exited s n 0) → ⊥
  no_child_zero s n created exited =
      let there = found (λ (t : Thread B). t.local.has_exited) (fin.get s.threads (child n 0)) exited in
      let c = created.is_created (child n 0) (some_is _ there.0 there.1) (child_not_main n 0) in
      let zero_th : 0 ≡ c.number = (same_from_push n c.parent 0 c.number c.name).1 in
      omega (arith, c.created.first, zero_th)

  -- a join that may be done waits for a child
  awaited : (s : State B) (n : Name) (t : Local) (x : Handle) → ThreadsAreCreated s → HoldsChild t x → IsTrue (child_has_exited s n (child_number x))
      → IsChildOf t (child_number x)
  awaited s n t x created is exited = joined_child t x is (λ none. no_child_zero s n created (subst (λ k. IsTrue (child_has_exited s n k)) none exited))

  -- after an instruction all thread variables hold children
  does_keep : (s u : State B) (n : Name) (i : Instr) → ThreadsAreCreated s → (g : Goes ops code s u n i) → HandlesAreChildren g.before.local
      → HandlesAreChildren (local_after g.before.local i g.value)
  does_keep s u n (Branch e to) created g all =
      subst HandlesAreChildren (sym (branch_is g.before.local _ to)) (still_children g.before.local _ refl (le_refl _) all)
  does_keep s u n (Create h f es) created g all =
      still_children_after g.before.local _ h (Child (g.before.local.children + 1)) refl (omega arith) (record { first = omega arith; last = omega arith }) all
  does_keep s u n (Join h) created g all =
      let is = awaited s n g.before.local (handle_of g.before.local h) created (all h) g.allowed in
      still_children_after g.before.local _ h (Joined (child_number (handle_of g.before.local h))) refl (le_refl _)
      (record { first = is.first; last = is.last }) all
  does_keep s u n i created g all = still_children g.before.local _ refl (le_refl _) all

  -- each move keeps children in all thread variables
  keeps_children : (s : State B) → ThreadsAreCreated s → Keeps ops code s HandlesAreChildren HandlesAreChildren
  keeps_children s created = record {
    stays = λ t steps few all. still_children t (record t { steps = steps }) refl (le_refl t.children) all;
    does = λ u n i g all. does_keep s u n i created g all;
    bears = λ u n h f es g all. born_has_none f _;
  }

  -- in each reached state the names in thread variables are children
  pub handles_are_children : (s : State B) → IsReached ops code s → AllThreads HandlesAreChildren s.threads
  handles_are_children = all_in_reached ops code HandlesAreChildren (λ s r. keeps_children s (reached_is_created ops code s r)) (born_has_none _ [])
