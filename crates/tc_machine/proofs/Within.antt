-- In a state that a run of lawful code reaches, each buffered store is to an existing cell.
use Rattle.std.proofs.Common.{
  ◌≡◌,
  ◌∙◌,
  inl,
  inr,
  ℕ,
  ◌+◌,
  ◌<◌,
  ℤ,
  pos,
  slice_set,
  length,
  List,
  [],
  ◌∷◌,
  ◌++◌,
  Bool,
  true,
  false,
  cond,
  Option,
  Some,
  None,
  refl,
  sym,
  subst,
}
use Rattle.std.specs.Prelude.{is_some, IsSome, IfSome}
use Rattle.std.specs.FinMap as fin
use Rattle.std.specs.Ordering.{nat_cmp}
use Rattle.std.specs.Cmp.Lexicographic.{slice_cmp}
use Rattle.std.proofs.lemmas.Option.{none-some, same_Some, option_and_then_some, cond_some}
use Rattle.tc_base.specs.Names.{Name, ByName, main, child}
use Rattle.tc_base.specs.Buffers.{BufferOps, Entry}
use Rattle.tc_base.specs.States.{Thread, State}
use Rattle.store_buffers.specs.memory_models.declared.model.Model.{Model}
use Rattle.tc_base.specs.declared.moves.Move.{Move}
use Rattle.tc_base.specs.declared.moves.Move.TheVariants as move
use Rattle.tc_base.specs.declared.request.Request.{Request}
use Rattle.tc_base.specs.declared.request.Request.TheVariants.{Write, Bar, Start}
use Rattle.tc_code.specs.declared.instr.Instr.{Instr}
use Rattle.tc_code.specs.Code.{Code}
use Rattle.tc_code.specs.Lawful.{IsLawful}
use Rattle.tc_code.specs.Run.{IsReached}
use Rattle.tc_code.specs.Step.{request, local_after, with_thread, state_after_step, perform, state_after_store, state_after_drain, drain_of, born, step}
use Rattle.tc_threads.proofs.run_laws.Basics.{some_value, unless}
use Rattle.tc_threads.proofs.run_laws.Names.{get_put_cases}
use Rattle.tc_threads.proofs.run_laws.Steps.{step_went, holds_in_reached}
use Rattle.tc_threads.proofs.run_laws.Whole.{reached_is_whole}
use Rattle.store_buffers.specs.Pending.{Pending, Store, Bar as PendingBar, Binding, Stands, form_of}
use Rattle.store_buffers.specs.Laws.{Laws}
use Rattle.store_buffers.specs.helpers.Lists.{store_last, bar_last}
use Rattle.tc_machine.specs.helpers.CanDo.{AsksIn}
use Rattle.tc_threads.proofs.run_laws.Asks.{asked_is_there}

-- each of these stores is to a cell below a number
abbrev AreWithin : ℕ → List Pending → Type 0
AreWithin n [] = Unit {0}
AreWithin n (Store e ∷ ps) = (e.cell < n) × AreWithin n ps
AreWithin n (PendingBar ∷ ps) = AreWithin n ps

within_append : (n : ℕ) (ps qs : List Pending) → AreWithin n ps → AreWithin n qs → AreWithin n (ps ++ qs)
within_append n [] qs h k = k
within_append n (Store e ∷ ps) qs h k = (h.0, within_append n ps qs h.1 k)
within_append n (PendingBar ∷ ps) qs h k = within_append n ps qs h k

-- one of the stores is to such a cell, and so are the others
within_one : (n : ℕ) (older : List Pending) (e : Entry) (newer : List Pending) → AreWithin n (older ++ Store e ∷ newer) → e.cell < n
within_one n [] e newer h = h.0
within_one n (Store d ∷ older) e newer h = within_one n older e newer h.1
within_one n (PendingBar ∷ older) e newer h = within_one n older e newer h

within_rest : (n : ℕ) (older : List Pending) (e : Entry) (newer : List Pending) → AreWithin n (older ++ Store e ∷ newer) → AreWithin n (older ++ newer)
within_rest n [] e newer h = h.1
within_rest n (Store d ∷ older) e newer h = (h.0, within_rest n older e newer h.1)
within_rest n (PendingBar ∷ older) e newer h = within_rest n older e newer h

-- the cell that a form names
named_cell : (bound : Binding) (k c : ℕ) → form_of bound k ≡ Some c → k ≡ c
named_cell bound k c h = some_named (bound false false) h
  where
    some_named : (b : Bool) → cond b None (Some k) ≡ Some c → k ≡ c
    some_named true h = absurd (none-some c h)
    some_named false h = same_Some k c h

module _ {B : Type 0} (ops : BufferOps B) (model : Model) (bound : Binding) (laws : Laws ops model bound) where
  -- a buffer represents stores to cells below a number
  record HoldsWithin (n : ℕ) (b : B) : Type 0 where
    pending : List Pending
    stands : Stands ops b pending
    within : AreWithin n pending

  abbrev AllWithin : ℕ → ByName (Thread B) → Type 0
  AllWithin n threads = (q : Name) (t : Thread B) → fin.get threads q ≡ Some t → HoldsWithin n t.buffer

  empty_within : (n : ℕ) → HoldsWithin n ops.empty
  empty_within n = record { pending = []; stands = record { made = refl; issued = λ _. refl }; within = tt }

  issued_within : (n : ℕ) (b : B) (c : ℕ) (v : ℤ) → ops.buffered ≡ true → c < n → HoldsWithin n b → HoldsWithin n (ops.issue b c v)
  issued_within n b c v buffered lt h = record {
    pending = h.pending ++ Store (record { cell = c; value = v }) ∷ [];
    stands = store_last ops b h.pending c v buffered h.stands;
    within = within_append n h.pending (Store (record { cell = c; value = v }) ∷ []) h.within (lt, tt);
  }

  barred_within : (n : ℕ) (b : B) → HoldsWithin n b → HoldsWithin n (ops.bar b)
  barred_within n b h = record {
    pending = h.pending ++ PendingBar ∷ [];
    stands = bar_last ops b h.pending h.stands;
    within = within_append n h.pending (PendingBar ∷ []) h.within tt;
  }

  module _ (n : ℕ) (b : B) (form : Option ℕ) (h : HoldsWithin n b) (may : ops.may_drain b form ≡ true) where
    -- what drains is to a cell below the number
    drains_within : (ops.drain b form).entry.cell < n
    drains_within =
        let some = laws.may_drain_stands b h.pending form h.stands may in
        let out = laws.drain_stands b h.pending form some.older some.store some.newer h.stands some.drains in
        subst (λ (e : Entry). e.cell < n) (sym out.takes)
        (within_one n some.older some.store some.newer (subst (AreWithin n) some.drains.there h.within))

    rest_within : HoldsWithin n (ops.drain b form).rest
    rest_within =
        let some = laws.may_drain_stands b h.pending form h.stands may in
        let out = laws.drain_stands b h.pending form some.older some.store some.newer h.stands some.drains in
        record {
          pending = some.older ++ some.newer;
          stands = out.leaves;
          within = within_rest n some.older some.store some.newer (subst (AreWithin n) some.drains.there h.within);
        }

    -- the cell of the form is below the number
    form_within : (c : ℕ) → form ≡ Some c → c < n
    form_within c is =
        let some = laws.may_drain_stands b h.pending form h.stands may in
        subst (λ k. k < n) (named_cell bound some.store.cell c (some.drains.by_form ∙ is))
        (within_one n some.older some.store some.newer (subst (AreWithin n) some.drains.there h.within))

  all_put : (n : ℕ) (threads : ByName (Thread B)) (q : Name) (new : Thread B) → AllWithin n threads → HoldsWithin n new.buffer
      → AllWithin n (fin.insert threads q new)
  all_put n threads q new all h p t there =
      elim (get_put_cases threads q new p t there) [
        | inl is ↦ subst (λ (u : Thread B). HoldsWithin n u.buffer) is.1 h
        | inr was ↦ all p t was.1
      ]

  module _ (code : Code) (n : ℕ) where
    stored_within : (s : State B) (q : Name) (t : Thread B) (i : Instr) (c : ℕ) (v : ℤ) → c < n → AllWithin n s.threads → HoldsWithin n t.buffer
        → AllWithin n (state_after_store ops s q t i c v).threads
    stored_within s q t i c v lt all h = either_way ops.buffered refl
      where
        either_way : (b : Bool) → ops.buffered ≡ b
            → AllWithin n (cond b (with_thread s q (record { local = local_after t.local i (pos 0); buffer = ops.issue t.buffer c v }))
            (record (state_after_step ops s q t i) { memory = slice_set s.memory c v })).threads
        either_way true e = all_put n s.threads q _ all (issued_within n t.buffer c v e lt h)
        either_way false e = all_put n s.threads q _ all h

    performed_within : (s : State B) (q : Name) (t : Thread B) (i : Instr) (r : Request) → n ≡ length s.memory → AsksIn s r
        → AllWithin n s.threads → HoldsWithin n t.buffer → AllWithin n (perform ops code s q t i r).threads
    performed_within s q t i (Write c v) cells asks all h = stored_within s q t i c v (subst (λ k. c < k) (sym cells) asks) all h
    performed_within s q t i Bar cells asks all h = all_put n s.threads q _ all (barred_within n t.buffer h)
    performed_within s q t i (Start f) cells asks all h =
        all_put n _ (child q (t.local.children + 1)) (born ops code f _) (all_put n s.threads q _ all h) (empty_within n)
    performed_within s q t i _ cells asks all h = all_put n s.threads q _ all h

  module _ (code : Code) (lawful : IsLawful code) where
    went_within : (s u : State B) (m : Move) → IsReached ops code s → step ops code s m ≡ Some u → AllWithin (length code.memory) s.threads
        → AllWithin (length code.memory) u.threads
    went_within s u (move.Run q) reached one all =
        let w = step_went ops code s u (move.Run q) one in
        subst (λ (v : State B). AllWithin (length code.memory) v.threads) (sym w.after)
        (performed_within code (length code.memory) s q w.thread w.instr (request w.thread.local w.instr)
        (sym (reached_is_whole ops code s lawful reached).cells)
        (asked_is_there ops code s q w.thread w.instr lawful reached w.there w.at) all (all q w.thread w.there))
    went_within s u (move.Wake q v) reached one all =
        let w = step_went ops code s u (move.Wake q v) one in
        subst (λ (v : State B). AllWithin (length code.memory) v.threads) (sym w.after)
        (all_put (length code.memory) s.threads q _ all (all q w.thread w.there))
    went_within s u (move.Drain q form) reached one all =
        option_and_then_some (λ t. drain_of ops s q t form) (fin.get s.threads q) u (unless (is_some s.failed) _ u one).1 (λ t there g.
        let may = cond_some (ops.may_drain t.buffer form) (state_after_drain ops s q t form) u g in
        subst (λ (v : State B). AllWithin (length code.memory) v.threads) may.1
        (all_put (length code.memory) s.threads q _ all (rest_within (length code.memory) t.buffer form (all q t there) may.0)))

    all_within : (s : State B) → IsReached ops code s → AllWithin (length code.memory) s.threads
    all_within =
        holds_in_reached ops code (λ (u : State B). AllWithin (length code.memory) u.threads)
        (all_put (length code.memory) fin.empty main _ (λ q t there. absurd (none-some t (sym (fin.get-empty (slice_cmp nat_cmp) q) ∙ there)))
        (empty_within (length code.memory)))
        (λ s u m r one all. went_within s u m r one all)

    module _ (s : State B) (reached : IsReached ops code s) (q : Name) (t : Thread B) (there : fin.get s.threads q ≡ Some t) (form : Option ℕ)
        (may : ops.may_drain t.buffer form ≡ true) where
      -- the store that drains is to an existing cell
      pub drained_is_there : (ops.drain t.buffer form).entry.cell < length s.memory
      drained_is_there =
          subst (λ n. (ops.drain t.buffer form).entry.cell < n) (sym (reached_is_whole ops code s lawful reached).cells)
          (drains_within (length code.memory) t.buffer form (all_within s reached q t there) may)

      -- the cell that its form names exists
      pub form_is_there : (c : ℕ) → form ≡ Some c → c < length s.memory
      form_is_there c is =
          subst (λ n. c < n) (sym (reached_is_whole ops code s lawful reached).cells)
          (form_within (length code.memory) t.buffer form (all_within s reached q t there) may c is)

    -- if a thread's drain is enabled, its store is to an existing cell
    pub drains_within_memory : (s : State B) → IsReached ops code s → (q : Name) (form : Option ℕ) → IsSome (step ops code s (move.Drain q form))
        → IfSome (fin.get s.threads q) (λ t. (ops.drain t.buffer form).entry.cell < length s.memory)
    drains_within_memory s reached q form enabled =
        let after = some_value (step ops code s (move.Drain q form)) enabled in
        option_and_then_some (λ t. drain_of ops s q t form) (fin.get s.threads q) after.0 (unless (is_some s.failed) _ after.0 after.1).1 (λ t there g.
        subst (λ o. IfSome o (λ (t : Thread B). (ops.drain t.buffer form).entry.cell < length s.memory)) (sym there)
        (drained_is_there s reached q t there form (cond_some (ops.may_drain t.buffer form) (state_after_drain ops s q t form) after.0 g).0))
