-- The deed of an enabled move, from the rows before it.
use Rattle.std.proofs.Common.{◌≡◌, ◌∙◌, ℕ, ℤ, List, [], ◌∷◌, true, Option, Some, None, IsSome, sym, ap, subst}
use Rattle.std.specs.Option.{option_map_or, IsSomeAnd}
use Rattle.std.specs.Prelude.{option_map}
use Rattle.std.specs.FinMap as fin
use Rattle.tc_base.specs.Names.{Name}
use Rattle.tc_base.specs.Buffers.{BufferOps}
use Rattle.tc_base.specs.States.{Local, Thread, State}
use Rattle.store_buffers.specs.memory_models.declared.model.Model.{Model}
use Rattle.tc_base.specs.declared.moves.Move.{Move}
use Rattle.tc_base.specs.declared.moves.Move.TheVariants as move
use Rattle.tc_base.specs.declared.request.Request.{Request}
use Rattle.tc_code.specs.declared.instr.Instr.{Instr}
use Rattle.tc_code.specs.Code.{Code}
use Rattle.tc_code.specs.Lawful.{IsLawful}
use Rattle.tc_code.specs.Run.{IsReached}
use Rattle.tc_code.specs.Step.{request, instr_of, step}
use Rattle.tc_threads.specs.run_laws.Whole.{IsWholeThread}
use Rattle.tc_threads.proofs.run_laws.Whole.{reached_is_whole}
use Rattle.tc_threads.proofs.run_laws.Basics.{some_value}
use Rattle.tc_threads.proofs.run_laws.Steps.{Went, step_went}
use Rattle.store_buffers.specs.Pending.{Binding}
use Rattle.store_buffers.specs.Laws.{Laws}
use Rattle.show_deeds.specs.run_history.History.{Deed, Did, Drained, history, deed_of, did, drained, value_taken, created_by, by_instr}
use Rattle.show_deeds.specs.run_history.Locals.{locals_in}
use Rattle.show_deeds.proofs.run_history.Frame.{holds_after}
use Rattle.show_deeds.proofs.run_history.Locals.{LocalsAre, keeps_locals, opening_locals}
use Rattle.std.proofs.lemmas.Option.{none-some, same_Some}
use Rattle.tc_threads.proofs.ByName.{there_and}
use Rattle.show_deeds.specs.Deeds.{plain_deed, doer}
use Rattle.show_deeds.specs.Seen.{Seen, taken_by, first_by}
use Rattle.show_deeds.specs.declared.deed.Deed.TheVariants as deed
use Rattle.show_deeds.specs.declared.deed.Stored.{Stored}
use Rattle.show_deeds.proofs.Kept.{SeenIs, seen_is, taken_is, first_drains}
use Rattle.show_rows.specs.Rows.{deeds, WasAt}
use Rattle.show_rows.specs.declared.row.Row.{Row}
use Rattle.show_rows.specs.declared.telling.Telling.{Telling}
use Rattle.show_rows.specs.helpers.SoFar.{IsSoFar}

module _ {B : Type 0} (ops : BufferOps B) (code : Code) (s : State B) where
  -- an enabled move has its kind
  pub goes : (m : Move) → IsSome (step ops code s m) → (u : State B) × Went ops code s u m
  goes m enabled = let one = some_value (step ops code s m) enabled in (one.0, step_went ops code s one.0 m one.1)

  module _ (h : List Deed) (n : Name) (t : Thread B) (there : fin.get s.threads n ≡ Some t) where
    -- the step of a thread by the instruction at its place
    pub run_does : (i : Instr) → instr_of code t.local ≡ Some i
        → deed_of ops code s h (move.Run n) ≡ did ops code s n t (request t.local i) ∷ []
    run_does i at =
        ap (λ o. option_map_or (λ t. by_instr ops code t (did ops code s n t)) o []) there
        ∙ ap (λ o. option_map_or (λ i. did ops code s n t (request t.local i) ∷ []) o []) at

    pub drain_does : (form : Option ℕ) → deed_of ops code s h (move.Drain n form) ≡ drained ops code h n (ops.drain t.buffer form).entry ∷ []
    drain_does form = ap (λ o. option_map_or (λ (t : Thread B). drained ops code h n (ops.drain t.buffer form).entry ∷ []) o []) there

module _ {B : Type 0} (ops : BufferOps B) (model : Model) (bound : Binding) (laws : Laws ops model bound) (code : Code) (s : State B) (t : Telling)
    (so : IsSoFar ops code s t) where
  abbrev told : List Deed
  told = deeds t.rows.items

  seen_so : SeenIs ops model bound laws code s told
  seen_so = subst (SeenIs ops model bound laws code s) (sym so.told) (seen_is ops model bound laws code so.made s so.leads)

  -- the value that a request takes
  pub taken_so : (thread : Thread B) (r : Request) → value_taken ops code s thread r ≡ taken_by ops t.seen.memory thread r
  taken_so thread r = taken_is ops model bound laws code s told thread r seen_so ∙ ap (λ (x : Seen). taken_by ops x.memory thread r) (sym so.sees)

  -- the store that drains
  pub drains_so : (n : Name) (thread : Thread B) (form : Option ℕ) → fin.get s.threads n ≡ Some thread → ops.may_drain thread.buffer form ≡ true
      → IsSomeAnd (first_by n form t.seen.waiting) (λ w. drained ops code told n (ops.drain thread.buffer form).entry ≡ Drained w.thread w.number w.cell w.value)
  drains_so n thread form there may =
      subst (λ (x : Seen). IsSomeAnd (first_by n form x.waiting)
      (λ w. drained ops code told n (ops.drain thread.buffer form).entry ≡ Drained w.thread w.number w.cell w.value)) (sym so.sees)
      (first_drains ops model bound laws code s told n thread form seen_so there may)

  -- an enabled drain takes a store that waits
  drain_row : (n : Name) (form : Option ℕ) → IsSome (step ops code s (move.Drain n form))
      → (w : Stored) × (first_by n form t.seen.waiting ≡ Some w) × (deed_of ops code s told (move.Drain n form) ≡ plain_deed (deed.Drained w) ∷ [])
  drain_row n form enabled =
      let g = (goes ops code s (move.Drain n form) enabled).1 in
      let w = there_and _ _ (drains_so n g.thread form g.there g.may) in
      (w.0, w.1, drain_does ops code s told n g.thread g.there form ∙ ap (λ d. d ∷ []) w.2)

  pub some_drains : (n : Name) (form : Option ℕ) → IsSome (step ops code s (move.Drain n form)) → first_by n form t.seen.waiting ≡ None → ⊥
  some_drains n form enabled none = let w = drain_row n form enabled in none-some w.0 (sym none ∙ w.1)

  pub drain_gives : (n : Name) (form : Option ℕ) → IsSome (step ops code s (move.Drain n form)) → (x : Stored) → first_by n form t.seen.waiting ≡ Some x
      → deed_of ops code s told (move.Drain n form) ≡ plain_deed (deed.Drained x) ∷ []
  drain_gives n form enabled x first =
      let w = drain_row n form enabled in
      w.2 ∙ ap (λ y. plain_deed (deed.Drained y) ∷ []) (same_Some w.0 x (sym w.1 ∙ first))

  pub reached : IsReached ops code s
  reached = record { moves = so.made; leads = so.leads }

  -- a run move makes a step with these parts
  pub run_gives : (n : Name) (thread : Thread B) (i : Instr) → fin.get s.threads n ≡ Some thread → instr_of code thread.local ≡ Some i
      → (m : Name) (k : ℕ) (r : Request) (v : ℤ) (o : Option Name) → m ≡ n → k ≡ thread.local.steps → r ≡ request thread.local i
      → v ≡ taken_by ops t.seen.memory thread r → o ≡ created_by ops code n thread.local r
      → deed_of ops code s told (move.Run n) ≡ Did m k r v o ∷ []
  run_gives n thread i there at m k r v o em ek er ev eo =
      run_does ops code s told n thread there i at
      ∙ ap (λ (x : Request). Did n thread.local.steps x (value_taken ops code s thread x) (created_by ops code n thread.local x) ∷ []) (sym er)
      ∙ ap (λ x. Did n thread.local.steps r x (created_by ops code n thread.local r) ∷ []) (taken_so thread r ∙ sym ev)
      ∙ ap (λ x. Did n thread.local.steps r v x ∷ []) (sym eo)
      ∙ ap (λ x. Did n x r v o ∷ []) (sym ek)
      ∙ ap (λ (x : Name). Did x k r v o ∷ []) (sym em)

  -- a thread has everything that its function may name
  pub whole_so : IsLawful code → (n : Name) (thread : Thread B) → fin.get s.threads n ≡ Some thread → IsWholeThread code thread.local
  whole_so lawful n thread there = (reached_is_whole ops code s lawful reached).threads n thread there

  -- the place of a row's thread, which the rows so far determine
  pub was_at : (row : Row) (thread : Thread B) → fin.get s.threads (doer row.deed) ≡ Some thread → row.function ≡ thread.local.function
      → row.instruction ≡ thread.local.instruction → row.slots.items ≡ thread.local.slots → WasAt code told row
  was_at row thread there function instruction slots =
      subst
      (λ (o : Option Local). IsSomeAnd o (λ t. (t.function ≡ row.function) × (t.instruction ≡ row.instruction) × (t.slots ≡ row.slots.items)))
      (sym (ap (λ h. fin.get (locals_in code h) (doer row.deed)) so.told ∙ locals_so ∙ ap (option_map (λ (t : Thread B). t.local)) there))
      (sym function, sym instruction, sym slots)
    where
      locals_so : fin.get (locals_in code (history ops code so.made)) (doer row.deed) ≡ option_map (λ (t : Thread B). t.local) (fin.get s.threads (doer row.deed))
      locals_so = holds_after ops code (LocalsAre ops code) (keeps_locals ops code) (opening_locals ops code) so.made s so.leads (doer row.deed)
