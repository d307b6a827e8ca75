-- The history determines whether a move is enabled.
use Rattle.std.proofs.Common.{◌≡◌, ◌↔◌, ◌∙◌, ℕ, ◌<◌, ◌==◌, length, Bool, true, false, not, ◌&&◌, ◌||◌, List, []}
use Rattle.std.proofs.Common.{IsTrue, inl, inr, ◌∷◌, ◌++◌, Option, Some, None, refl, sym, ap, ap₂, subst}
use Rattle.std.specs.Prelude.{is_some, is_none, unwrap_or, option_and_then, if◌then◌else◌}
use Rattle.std.specs.FinMap as fin
use Rattle.std.specs.FinSet as set
use Rattle.std.proofs.lemmas.Bool.{false≢true, cases_Bool, and_parts}
use Rattle.std.proofs.lemmas.List.{map-append}
use Rattle.run_history.specs.tc_base.Names.{Name, child}
use Rattle.run_history.specs.tc_base.Buffers.{BufferOps}
use Rattle.run_history.specs.list_laws.Lists.{is_nil}
use Rattle.run_history.specs.tc_base.States.{Thread, State}
use Rattle.run_history.specs.memory_models.declared.model.Model.{Model}
use Rattle.run_history.specs.tc_base.declared.moves.Move.{Move}
use Rattle.run_history.specs.tc_base.declared.moves.Move.TheVariants as move
use Rattle.run_history.specs.tc_base.declared.request.Request.{Request}
use Rattle.run_history.specs.tc_base.declared.request.Request.TheVariants.{Read, Exchange, Acquire, EndWait, WakeOne, Await}
use Rattle.run_history.specs.tc_code.declared.instr.Instr.{Instr}
use Rattle.run_history.specs.tc_code.declared.instr.Instr.TheVariants.{Inside, Holds, Signal, Ready, Assert, Nonzero, InRange}
use Rattle.run_history.specs.tc_code.Code.{Code}
use Rattle.run_history.specs.tc_code.Step.{request, site, instr_of, loaded, drains_first, is_let, allows, perform, state_after_wake, step, move_of}
use Rattle.run_history.specs.tc_code.Step.{run_of, wake_of, drain_of, opening}
use Rattle.run_history.specs.tc_code.Step as stepping
use Rattle.run_history.specs.tc_code.Run.{run}
use Rattle.run_history.specs.store_buffers.Pending.{Store, stores, Binding, Stands, waits}
use Rattle.run_history.specs.store_buffers.Laws.{Laws, SomeDrains}
use Rattle.run_history.specs.History.{Deed, pending, value_taken, history, Issue, pending_issues}
use Rattle.run_follows.specs.Follow.{seen_in, is_let_in, is_allowed_in, may_wake_in, taken_in, IsNextDrain, HasTurn}
use Rattle.run_history.specs.Told.{failed_in}
use Rattle.run_history.proofs.Locals.{LocalsAre, keeps_locals, opening_locals}
use Rattle.run_history.proofs.Shared.{MemoryIs, keeps_memory, opening_memory, OwnersAre, keeps_owners, opening_owners}
use Rattle.run_history.proofs.Shared.{WaitersAre, keeps_waiters, opening_waiters, FailureIs, keeps_failure}
use Rattle.run_history.proofs.of_pending.Apart.{DeedsAre, keeps_deeds, opening_deeds}
use Rattle.run_history.proofs.of_pending.Issues.{Rises, whats, SplitAt, split_at}
use Rattle.run_history.proofs.of_pending.Turns.{next_by_steps, split_by_steps}
use Rattle.run_history.proofs.run_laws.Asks.{AsksOf}
use Rattle.run_history.proofs.Frame.{Keeps, holds_after}

module _ {B : Type 0} (ops : BufferOps B) (model : Model) (bound : Binding) (laws : Laws ops model bound) (code : Code) where
  -- everything that a history determines of a state
  pub record Tells (s : State B) (h : List Deed) : Type 0 where
    pub memory : MemoryIs ops code s h
    pub owners : OwnersAre ops code s h
    pub waiters : WaitersAre ops code s h
    pub failure : FailureIs ops code s h
    pub deeds : DeedsAre ops model bound laws code s h
    pub locals : LocalsAre ops code s h

  pub keeps_tells : Keeps ops code Tells
  keeps_tells =
      let m = keeps_memory ops code in
      let o = keeps_owners ops code in
      let w = keeps_waiters ops code in
      let f = keeps_failure ops code in
      let d = keeps_deeds ops model bound laws code in
      let l = keeps_locals ops code in
      record {
        ran = λ s h n t i r reached going here at asks may a. record {
          memory = m.ran s h n t i r reached going here at asks may a.memory;
          owners = o.ran s h n t i r reached going here at asks may a.owners;
          waiters = w.ran s h n t i r reached going here at asks may a.waiters;
          failure = f.ran s h n t i r reached going here at asks may a.failure;
          deeds = d.ran s h n t i r reached going here at asks may a.deeds;
          locals = l.ran s h n t i r reached going here at asks may a.locals;
        };
        waked = λ s h n u t c reached going here at empty waits a. record {
          memory = m.waked s h n u t c reached going here at empty waits a.memory;
          owners = o.waked s h n u t c reached going here at empty waits a.owners;
          waiters = w.waked s h n u t c reached going here at empty waits a.waiters;
          failure = f.waked s h n u t c reached going here at empty waits a.failure;
          deeds = d.waked s h n u t c reached going here at empty waits a.deeds;
          locals = l.waked s h n u t c reached going here at empty waits a.locals;
        };
        flushed = λ s h n t form reached going here may a. record {
          memory = m.flushed s h n t form reached going here may a.memory;
          owners = o.flushed s h n t form reached going here may a.owners;
          waiters = w.flushed s h n t form reached going here may a.waiters;
          failure = f.flushed s h n t form reached going here may a.failure;
          deeds = d.flushed s h n t form reached going here may a.deeds;
          locals = l.flushed s h n t form reached going here may a.locals;
        };
      }

  pub opening_tells : Tells (opening ops code) []
  opening_tells = record {
    memory = opening_memory ops code;
    owners = opening_owners ops code;
    waiters = opening_waiters ops code;
    failure = refl;
    deeds = opening_deeds ops model bound laws code;
    locals = opening_locals ops code;
  }

  pub told : (ms : List Move) (s : State B) → run ops code ms ≡ Some s → Tells s (history ops code ms)
  told ms s leads = holds_after ops code Tells keeps_tells opening_tells ms s leads

  -- a drain needs buffers
  pub drains_by_buffers : (b : B) (form : Option ℕ) → IsTrue (ops.may_drain b form) → ops.buffered ≡ true
  drains_by_buffers b form may =
      elim (cases_Bool ops.buffered) [ inl has ↦ has | inr none ↦ absurd (false≢true (sym (laws.unbuffered none b form) ∙ may)) ]

  module _ (s : State B) (h : List Deed) (a : Tells s h) (n : Name) (t : Thread B) (here : fin.get s.threads n ≡ Some t) where
    stands : Stands ops t.buffer (pending ops.buffered h n)
    stands = a.deeds.buffers.stands n t here

    pub empty_told : ops.is_empty t.buffer ≡ is_nil (stores (pending ops.buffered h n))
    empty_told = laws.empty_law t.buffer (pending ops.buffered h n) stands

    pub load_told : (c : ℕ) → c < length code.memory → loaded ops s t c ≡ seen_in ops.buffered code h n c
    load_told c within = ap₂ unwrap_or (laws.forward_stands t.buffer (pending ops.buffered h n) c stands) (a.memory.values c within)

    pub taken_told : (r : Request) → AsksOf code r → value_taken ops code s t r ≡ taken_in ops.buffered code h n r
    taken_told (Read c) within = load_told c within
    taken_told (Exchange c v) within = a.memory.values c within
    taken_told _ within = refl

    let_told : (r : Request) → AsksOf code r → is_let s n r ≡ is_let_in h n r
    let_told (Acquire m) within = ap is_none (a.owners.owners m within)
    let_told (EndWait c m) within = ap₂ (λ ns o. not (set.contains ns n) && is_none o) (a.waiters.waiters c within.0) (a.owners.owners m within.1)
    let_told (WakeOne c) within = ap (λ ns. set.len ns == 0) (a.waiters.waiters c within)
    let_told (Await k) within = a.deeds.buffers.threads.exits (child n k)
    let_told _ within = refl

    pub allowed_told : (r : Request) → AsksOf code r → allows ops s n t r ≡ is_allowed_in ops.buffered h n r
    allowed_told r within = ap₂ (λ e l. (not (drains_first r) || e) && l) empty_told (let_told r within)

    -- if no thread has failed, a move is enabled by its own conditions
    unless_failed : {A : Type 0} (o : Option Name) (x : Option A) → is_some (if is_some o then None else x) ≡ is_none o && is_some x
    unless_failed None x = refl
    unless_failed (Some m) x = refl

    where_true : {A : Type 0} (b : Bool) (x : A) → is_some (if b then Some x else None) ≡ b
    where_true true x = refl
    where_true false x = refl

    move_told : (m : Move) (b : Bool) → is_some (move_of ops code s m) ≡ b → is_some (step ops code s m) ≡ is_none (failed_in h) && b
    move_told m b is = unless_failed s.failed (move_of ops code s m) ∙ ap₂ (λ o x. is_none o && x) a.failure is

    pub run_told : (i : Instr) → instr_of code t.local ≡ Some i → AsksOf code (request t.local i)
        → is_some (step ops code s (move.Run n)) ≡ is_none (failed_in h) && is_allowed_in ops.buffered h n (request t.local i)
    run_told i at within =
        move_told (move.Run n) (is_allowed_in ops.buffered h n (request t.local i))
        (ap (λ o. is_some (option_and_then (λ x. option_and_then (run_of ops code s n x) (instr_of code x.local)) o)) here
        ∙ ap (λ o. is_some (option_and_then (run_of ops code s n t) o)) at
        ∙ where_true _ (perform ops code s n t i (request t.local i))
        ∙ allowed_told (request t.local i) within)

    no_wake : (u : Name) (b : Bool) → may_wake_in ops.buffered h n u (site b) ≡ false
    no_wake u true = refl
    no_wake u false = refl

    wake_of_told : (u : Name) (i : Instr) → AsksOf code (request t.local i)
        → is_some (wake_of ops s n u t i) ≡ may_wake_in ops.buffered h n u (request t.local i)
    wake_of_told u (Signal c) within =
        where_true _ (state_after_wake ops s n u t c) ∙ ap₂ (λ e ns. e && set.contains ns u) empty_told (a.waiters.waiters c within)
    wake_of_told u (Inside len e) within = sym (no_wake u _)
    wake_of_told u (Holds m) within = sym (no_wake u _)
    wake_of_told u (Ready v) within = sym (no_wake u _)
    wake_of_told u (Assert e) within = sym (no_wake u _)
    wake_of_told u (Nonzero e) within = sym (no_wake u _)
    wake_of_told u (InRange e) within = sym (no_wake u _)
    wake_of_told u _ within = refl

    pub wake_told : (u : Name) (i : Instr) → instr_of code t.local ≡ Some i → AsksOf code (request t.local i)
        → is_some (step ops code s (move.Wake n u)) ≡ is_none (failed_in h) && may_wake_in ops.buffered h n u (request t.local i)
    wake_told u i at within =
        move_told (move.Wake n u) (may_wake_in ops.buffered h n u (request t.local i))
        (ap (λ o. is_some (option_and_then (λ x. option_and_then (wake_of ops s n u x) (instr_of code x.local)) o)) here
        ∙ ap (λ o. is_some (option_and_then (wake_of ops s n u t) o)) at
        ∙ wake_of_told u i within)

    pub drain_told : (form : Option ℕ) → is_some (step ops code s (move.Drain n form)) ≡ is_none (failed_in h) && ops.may_drain t.buffer form
    drain_told form =
        move_told (move.Drain n form) (ops.may_drain t.buffer form)
        (ap (λ o. is_some (option_and_then (λ x. drain_of ops s n x form) o)) here ∙ where_true _ (stepping.state_after_drain ops s n t form))

    -- a store may drain exactly if one is pending that needn't wait
    may_drain_told : (form : Option ℕ) → (ops.may_drain t.buffer form ≡ true → SomeDrains ops bound (pending ops.buffered h n) form)
        × (SomeDrains ops bound (pending ops.buffered h n) form → ops.may_drain t.buffer form ≡ true)
    may_drain_told form = (
      λ may. laws.may_drain_stands t.buffer (pending ops.buffered h n) form stands may,
      λ some. (laws.drain_stands t.buffer (pending ops.buffered h n) form some.older some.store some.newer stands some.drains).may,
    )

    -- a store that may drain is next
    pub next_drain : (form : Option ℕ) → ops.buffered ≡ true → (some : SomeDrains ops bound (pending ops.buffered h n) form)
        → (split : SplitAt (pending_issues ops.buffered h n) some.older (Store some.store) some.newer)
        → IsNextDrain ops.buffered bound h n split.at.number some.store.cell some.store.value
    next_drain form has some split = record {
      buffers = has;
      next = next_by_steps h n a.deeds.named (subst (λ b. Rises (pending_issues b h n)) has (a.deeds.buffers.numbers n).rises) bound split.older
          split.newer split.at.number some.store.cell some.store.value
          (ap (λ b. pending_issues b h n) (sym has) ∙ split.there
          ∙ ap (λ p. split.older ++ record { number = split.at.number; what = p } ∷ split.newer) split.what)
          (subst (λ qs. waits bound qs some.store.cell ≡ false) (sym split.olders) some.drains.is_free);
    }

    -- some store may drain exactly if one is next
    turn_by : (form : Option ℕ) → ops.buffered ≡ true → SomeDrains ops bound (pending ops.buffered h n) form → HasTurn ops.buffered bound h n form
    turn_by form has some =
        let split = split_at (pending_issues ops.buffered h n) some.older (Store some.store) some.newer some.drains.there in
        record {
          number = split.at.number;
          cell = some.store.cell;
          value = some.store.value;
          by_form = some.drains.by_form;
          next = next_drain form has some split;
        }

    drains_by : (form : Option ℕ) → HasTurn ops.buffered bound h n form → SomeDrains ops bound (pending ops.buffered h n) form
    drains_by form turn =
        let has = turn.next.buffers in
        let s = split_by_steps h n a.deeds.named (subst (λ b. Rises (pending_issues b h n)) has (a.deeds.buffers.numbers n).rises) bound turn.number turn.cell
        turn.value turn.next.next in
        record {
          older = whats s.0.older;
          store = record { cell = turn.cell; value = turn.value };
          newer = whats s.0.newer;
          drains = record {
            there =
                ap (λ b. pending b h n) has ∙ ap whats s.0.there ∙ map-append (λ (i : Issue). i.what) s.0.older _;
            by_form = turn.by_form;
            is_free = s.1;
          };
        }

    -- a drain is enabled exactly if its store is next, unless a thread has failed
    pub drain_iff : (form : Option ℕ)
        → (is_some (step ops code s (move.Drain n form)) ≡ true) ↔ ((is_none (failed_in h) ≡ true) × HasTurn ops.buffered bound h n form)
    drain_iff form = (
      λ enabled.
          let both = and_parts _ _ (sym (drain_told form) ∙ enabled) in
          (both.0, turn_by form (drains_by_buffers t.buffer form both.1) ((may_drain_told form).0 both.1)),
      λ both. drain_told form ∙ ap₂ (λ x y. x && y) both.0 ((may_drain_told form).1 (drains_by form both.1)),
    )
