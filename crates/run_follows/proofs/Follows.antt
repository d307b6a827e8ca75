-- Each deed of a history may follow those before it.
use Rattle.std.proofs.Common.{◌≡◌, ◌∙◌, inl, inr, ℕ, ◌+◌, ℤ, Bool, true, false, IsTrue, List, [], ◌∷◌, ◌++◌}
use Rattle.std.proofs.Common.{Option, Some, None, refl, sym, ap, subst}
use Rattle.std.specs.Prelude.{is_some, option_map, option_and_then}
use Rattle.std.specs.Option.{option_map_or}
use Rattle.std.specs.FinMap as fin
use Rattle.std.specs.FinSet as set
use Rattle.std.proofs.lemmas.Bool.{false≢true, and_from}
use Rattle.run_history.specs.tc_base.Names.{Name, child}
use Rattle.run_history.specs.list_laws.Lists.{is_nil}
use Rattle.run_history.specs.tc_base.States.{Local, Thread, State}
use Rattle.run_history.specs.tc_base.declared.moves.Move.{Move}
use Rattle.run_history.specs.tc_base.declared.request.Request.{Request}
use Rattle.run_history.specs.tc_base.declared.request.Request.TheVariants.{Silent, WakeOne, Start}
use Rattle.run_history.specs.tc_code.declared.instr.Instr.{Instr}
use Rattle.run_history.specs.tc_code.declared.instr.Instr.TheVariants.{Signal}
use Rattle.run_history.specs.tc_code.Code.{Code}
use Rattle.run_history.specs.tc_code.Step.{request, instr_of, waiting_on, opening}
use Rattle.run_history.specs.tc_code.Step as stepping
use Rattle.run_history.specs.tc_code.Run.{IsReached, run}
use Rattle.run_history.specs.store_buffers.Pending.{Store, stores, Binding, waits}
use Rattle.run_history.specs.store_buffers.helpers.Lists.{not_nil}
use Rattle.run_history.specs.History.{Deed, Did, Drained, pending_issues, pending, did, woke, drained, created_by, history}
use Rattle.run_history.specs.Told.{is_thread_in, has_exited_in, children_in, failed_in, waiting_in}
use Rattle.run_follows.specs.Machine.{Machine}
use Rattle.run_follows.specs.Follow.{may_do_in, is_allowed_in}
use Rattle.run_follows.specs.Follow.{OtherIs, MayFollow, AllFollow, IsLeftIn, StepsAreOfThreads}
use Rattle.run_history.specs.pending.Deeds.{name_of}
use Rattle.run_history.specs.Locals.{asks_next}
use Rattle.run_history.proofs.run_laws.Basics.{unless}
use Rattle.run_history.proofs.of_pending.Issues.{split_at}
use Rattle.run_history.proofs.of_pending.Buffers.{deed_is}
use Rattle.run_history.proofs.of_pending.Apart.{last_or_before}
use Rattle.run_history.proofs.run_laws.Asks.{AsksOf, next_asks_within}
use Rattle.run_follows.proofs.Enabled.{Tells, keeps_tells, opening_tells, drains_by_buffers, next_drain, empty_told, taken_told, allowed_told}
use Rattle.run_history.proofs.Threads.{number_is, children_are}
use Rattle.run_history.proofs.Frame.{Keeps, holds_after}

-- a history stays one of deeds that follow if one more deed may follow
pub follow_push : (buffered : Bool) (bound : Binding) (code : Code) (h : List Deed) (d : Deed) → AllFollow buffered bound code h → failed_in h ≡ None
    → MayFollow buffered bound code h d → AllFollow buffered bound code (h ++ d ∷ [])
follow_push buffered bound code h d all none may older newer e is =
    elim (last_or_before h d older e newer is) [
      | inl last ↦ (
        subst (λ g. failed_in g ≡ None) last.0 none,
        subst (MayFollow buffered bound code older) last.1 (subst (λ g. MayFollow buffered bound code g d) last.0 may),
      )
      | inr b ↦ all older b.rest e b.there
    ]

-- one more step is of a thread that exists and hasn't exited
threads_push : (h : List Deed) (n : Name) (k : ℕ) (r : Request) (v : ℤ) (o : Option Name) → StepsAreOfThreads h → IsLeftIn h n
    → StepsAreOfThreads (h ++ Did n k r v o ∷ [])
threads_push h n k r v o all of older newer q j r' v' o' is =
    elim (last_or_before h (Did n k r v o) older (Did q j r' v' o') newer is) [
      | inl last ↦ subst (IsLeftIn older) (ap (λ x. x.thread) (ap name_of last.1)) (subst (λ g. IsLeftIn g n) last.0 of)
      | inr b ↦ all older b.rest q j r' v' o' b.there
    ]

threads_still : (h : List Deed) (n : Name) (k c : ℕ) (v : ℤ) → StepsAreOfThreads h → StepsAreOfThreads (h ++ Drained n k c v ∷ [])
threads_still h n k c v all older newer q j r' v' o' is =
    elim (last_or_before h (Drained n k c v) older (Did q j r' v' o') newer is) [
      | inl last ↦ absurd (false≢true (sym (ap (λ x. x.is_drain) (ap name_of last.1))))
      | inr b ↦ all older b.rest q j r' v' o' b.there
    ]

pub nothing_follows : (buffered : Bool) (bound : Binding) (code : Code) → AllFollow buffered bound code []
nothing_follows buffered bound code older newer e is = absurd (not_nil older e newer (sym is))

module _ {B : Type 0} (machine : Machine B) where
  open machine use {ops, model, bound, laws, code, lawful}

  pub record AllTold (s : State B) (h : List Deed) : Type 0 where
    pub tells : Tells ops model bound laws code s h
    pub follow : AllFollow ops.buffered bound code h
    pub threads : StepsAreOfThreads h

  -- a step that wakes no thread may be done if it is allowed
  may_do_is : (h : List Deed) (n : Name) (t : Local) (r : Request) → may_do_in ops.buffered h n r (created_by ops code n t r) ≡ is_allowed_in ops.buffered h n r
  may_do_is h n t (WakeOne c) = refl
  may_do_is h n t Silent = refl
  may_do_is h n t r = refl

  other_told : (h : List Deed) (n : Name) (t : Local) (r : Request) → t.children ≡ children_in h n → OtherIs h n r (created_by ops code n t r)
  other_told h n t (Start f) is = ap (λ k. Some (child n (k + 1))) is
  other_told h n t (WakeOne c) is = tt
  other_told h n t r is = refl

  module _ (s : State B) (h : List Deed) (n : Name) (t : Thread B) (i : Instr) (here : fin.get s.threads n ≡ Some t) (at : instr_of code t.local ≡ Some i)
      (a : Tells ops model bound laws code s h) where
    thread_there : is_thread_in h n ≡ true
    thread_there = sym (a.deeds.buffers.threads.there n) ∙ ap is_some here

    not_exited : has_exited_in h n ≡ false
    not_exited =
        sym (a.deeds.buffers.threads.exits n) ∙ ap (λ o. option_map_or (λ (x : Thread B). x.local.has_exited) o false) here
        ∙ (unless t.local.has_exited _ i at).0

  -- the history determines the next request of a thread
  asks_what : (s : State B) (h : List Deed) (n : Name) (t : Thread B) (i : Instr) (r : Request) → fin.get s.threads n ≡ Some t
      → instr_of code t.local ≡ Some i → request t.local i ≡ r → Tells ops model bound laws code s h → asks_next code h n ≡ Some r
  asks_what s h n t i r here at asks a =
      ap (option_and_then (λ (l : Local). option_map (request l) (instr_of code l))) (a.locals n ∙ ap (option_map (λ (x : Thread B). x.local)) here)
      ∙ ap (option_map (request t.local)) at ∙ ap Some asks

  step_follows : (s : State B) (h : List Deed) (n : Name) (t : Thread B) (i : Instr) (r : Request) → IsReached ops code s → fin.get s.threads n ≡ Some t
      → instr_of code t.local ≡ Some i → request t.local i ≡ r → IsTrue (stepping.allows ops s n t r) → Tells ops model bound laws code s h
      → MayFollow ops.buffered bound code h (did ops code s n t r)
  step_follows s h n t i r reached here at asks may a =
      let within = subst (AsksOf code) asks (next_asks_within ops code s n t i lawful reached here at) in
      record {
        asks = asks_what s h n t i r here at asks a;
        number = number_is ops code s h n a.deeds.buffers.threads t here;
        may = may_do_is h n t.local r ∙ sym (allowed_told ops model bound laws code s h a n t here r within) ∙ may;
        takes = taken_told ops model bound laws code s h a n t here r within;
        other_is = other_told h n t.local r (children_are ops code s h n a.deeds.buffers.threads t here);
      }

  wake_follows : (s : State B) (h : List Deed) (n u : Name) (t : Thread B) (c : ℕ) → IsReached ops code s → fin.get s.threads n ≡ Some t
      → instr_of code t.local ≡ Some (Signal c) → IsTrue (ops.is_empty t.buffer) → IsTrue (set.contains (waiting_on s c) u)
      → Tells ops model bound laws code s h → MayFollow ops.buffered bound code h (woke ops code n u t (WakeOne c))
  wake_follows s h n u t c reached here at empty waits a =
      let within = next_asks_within ops code s n t (Signal c) lawful reached here at in
      record {
        asks = asks_what s h n t (Signal c) (WakeOne c) here at refl a;
        number = number_is ops code s h n a.deeds.buffers.threads t here;
        may =
            and_from (is_nil (stores (pending ops.buffered h n))) (set.contains (waiting_in h c) u)
            (sym (empty_told ops model bound laws code s h a n t here) ∙ empty)
            (ap (λ ns. set.contains ns u) (sym (a.waiters.waiters c within)) ∙ waits);
        takes = refl;
        other_is = tt;
      }

  drain_follows : (s : State B) (h : List Deed) (n : Name) (t : Thread B) (form : Option ℕ) → fin.get s.threads n ≡ Some t
      → IsTrue (ops.may_drain t.buffer form) → Tells ops model bound laws code s h
      → MayFollow ops.buffered bound code h (drained ops code h n (ops.drain t.buffer form).entry)
  drain_follows s h n t form here may a =
      let ps = pending ops.buffered h n in
      let st = a.deeds.buffers.stands n t here in
      let has = drains_by_buffers ops model bound laws code t.buffer form may in
      let some = laws.may_drain_stands t.buffer ps form st may in
      let out = laws.drain_stands t.buffer ps form some.older some.store some.newer st some.drains in
      let split = split_at (pending_issues ops.buffered h n) some.older (Store some.store) some.newer some.drains.there in
      subst (MayFollow ops.buffered bound code h)
      (sym (deed_is ops model bound laws code s (stepping.state_after_drain ops s n t form) h n t form here refl some.older some.store some.newer some.drains.is_free out
      a.deeds.buffers split))
      (next_drain ops model bound laws code s h a n t here form has some split)

  pub keeps_all : Keeps ops code AllTold
  keeps_all =
      let k = keeps_tells ops model bound laws code in
      record {
        ran = λ s h n t i r reached going here at asks may a. record {
          tells = k.ran s h n t i r reached going here at asks may a.tells;
          follow = follow_push ops.buffered bound code h (did ops code s n t r) a.follow (sym a.tells.failure ∙ going)
              (step_follows s h n t i r reached here at asks may a.tells);
          threads = threads_push h n t.local.steps r _ _ a.threads
              (record { there = thread_there s h n t i here at a.tells; going = not_exited s h n t i here at a.tells });
        };
        waked = λ s h n u t c reached going here at empty waits a. record {
          tells = k.waked s h n u t c reached going here at empty waits a.tells;
          follow = follow_push ops.buffered bound code h (woke ops code n u t (WakeOne c)) a.follow (sym a.tells.failure ∙ going)
              (wake_follows s h n u t c reached here at empty waits a.tells);
          threads = threads_push h n t.local.steps (WakeOne c) _ _ a.threads
              (record { there = thread_there s h n t (Signal c) here at a.tells; going = not_exited s h n t (Signal c) here at a.tells });
        };
        flushed = λ s h n t form reached going here may a. record {
          tells = k.flushed s h n t form reached going here may a.tells;
          follow = follow_push ops.buffered bound code h (drained ops code h n (ops.drain t.buffer form).entry) a.follow (sym a.tells.failure ∙ going)
              (drain_follows s h n t form here may a.tells);
          threads = threads_still h n _ _ _ a.threads;
        };
      }

  pub opening_all : AllTold (opening ops code) []
  opening_all = record {
    tells = opening_tells ops model bound laws code;
    follow = nothing_follows ops.buffered bound code;
    threads = λ older newer n k r v o is. absurd (not_nil older _ newer (sym is));
  }

  pub all_told : (ms : List Move) (s : State B) → run ops code ms ≡ Some s → AllTold s (history ops code ms)
  all_told ms s leads = holds_after ops code AllTold keeps_all opening_all ms s leads

  pub all_follow : (ms : List Move) (s : State B) → run ops code ms ≡ Some s → AllFollow ops.buffered bound code (history ops code ms)
  all_follow ms s leads = (all_told ms s leads).follow
