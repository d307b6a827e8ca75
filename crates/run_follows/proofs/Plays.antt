-- A list of deeds, each of which may follow those before it, is the history of a run.
use Rattle.std.proofs.Common.{◌<◌, ◌≡◌, ◌∙◌, ℕ, ◌+◌, ℤ, pos, true, false, ◌&&◌, List, [], ◌∷◌, ◌++◌, append_assoc, append-nil}
use Rattle.std.proofs.Common.{Option, Some, None, refl, sym, ap, ap₂, subst, arith}
use Rattle.std.specs.Prelude.{option_map, option_and_then}
use Rattle.std.specs.Option.{option_map_or}
use Rattle.std.specs.FinMap as fin
use Rattle.std.specs.FinSet as set
use Rattle.std.proofs.lemmas.Bool.{and_parts}
use Rattle.std.proofs.lemmas.List.{map-append}
use Rattle.std.proofs.lemmas.Option.{none-some, same_Some}
use Rattle.run_history.specs.tc_base.Names.{Name, child}
use Rattle.run_history.specs.tc_base.Buffers.{Entry}
use Rattle.run_history.specs.list_laws.Lists.{is_nil}
use Rattle.run_history.specs.tc_base.States.{Local, Thread, State}
use Rattle.run_history.specs.tc_base.declared.moves.Move.TheVariants as move
use Rattle.run_history.specs.tc_base.declared.request.Request.{Request}
use Rattle.run_history.specs.tc_base.declared.request.Request.TheVariants.{Silent, WakeOne, Start}
use Rattle.run_history.specs.tc_code.declared.instr.Instr.{Instr}
use Rattle.run_history.specs.tc_code.declared.instr.Instr.TheVariants.{Signal}
use Rattle.run_history.specs.tc_code.Code.{Code}
use Rattle.run_history.specs.tc_code.Step.{request, instr_of, step, opening}
use Rattle.run_history.specs.tc_code.Step as stepping
use Rattle.run_history.specs.tc_code.Run.{IsReached, run_from, run}
use Rattle.run_history.proofs.tc_code.Facts.{opening_is_reached, step_is_reached}
use Rattle.run_history.specs.store_buffers.Pending.{Store, stores, form_of, waits}
use Rattle.run_history.specs.History.{Deed, Did, Drained, Issue, pending_issues, pending, did, woke, drained, value_taken, created_by}
use Rattle.run_history.specs.History.{by_instr, deed_of, history_from, history}
use Rattle.run_history.specs.Locals.{asks_next}
use Rattle.run_history.specs.Told.{steps_in, failed_in, waiting_in}
use Rattle.run_follows.specs.Machine.{Machine}
use Rattle.run_follows.specs.Follow.{may_do_in, is_allowed_in, taken_in, OtherIs, IsNextDrain, MayFollow}
use Rattle.run_follows.specs.Follow.{AllFollow, move_for, moves_for}
use Rattle.run_history.proofs.of_pending.Issues.{Rises, whats, SplitAt}
use Rattle.run_history.proofs.of_pending.In.{In, all_in, in_at}
use Rattle.run_history.proofs.of_pending.Turns.{split_by_steps}
use Rattle.run_history.proofs.of_pending.Buffers.{deed_is}
use Rattle.run_history.proofs.run_laws.Asks.{AsksOf, next_asks_within}
use Rattle.run_history.proofs.run_laws.Stuck.{signals}
use Rattle.run_follows.proofs.Enabled.{Tells, keeps_tells, opening_tells, empty_told, taken_told, allowed_told}
use Rattle.run_history.proofs.Threads.{number_is, none_done, children_are}
use Rattle.run_history.proofs.Frame.{kept_by_step}
use Rattle.run_history.proofs.run_laws.Makes.{makes_run, makes_wake, makes_drain}

-- the instruction with this request
pub record AsksBy (code : Code) (t : Local) (r : Request) : Type 0 where
  pub instr : Instr
  pub at : instr_of code t ≡ Some instr
  pub asks : request t instr ≡ r

asks_by : (code : Code) (t : Local) (r : Request) (o : Option Instr) → instr_of code t ≡ o → option_map (request t) o ≡ Some r → AsksBy code t r
asks_by code t r None at e = absurd (none-some r e)
asks_by code t r (Some i) at e = record { instr = i; at = at; asks = same_Some (request t i) r e }

module _ {B : Type 0} (machine : Machine B) where
  open machine use {ops, model, bound, laws, code, lawful}

  -- the thread whose next request is this
  pub record Asker (s : State B) (n : Name) (r : Request) : Type 0 where
    pub thread : Thread B
    pub there : fin.get s.threads n ≡ Some thread
    pub by : AsksBy code thread.local r

  asker_by : (s : State B) (n : Name) (r : Request) (o : Option (Thread B)) → fin.get s.threads n ≡ o
      → option_and_then (λ (l : Local). option_map (request l) (instr_of code l)) (option_map (λ (t : Thread B). t.local) o) ≡ Some r → Asker s n r
  asker_by s n r None there e = absurd (none-some r e)
  asker_by s n r (Some t) there e = record { thread = t; there = there; by = asks_by code t.local r (instr_of code t.local) refl e }

  pub asker : (s : State B) (h : List Deed) (n : Name) (r : Request) → Tells ops model bound laws code s h → asks_next code h n ≡ Some r → Asker s n r
  asker s h n r a asks =
      asker_by s n r (fin.get s.threads n) refl
      (ap (option_and_then (λ (l : Local). option_map (request l) (instr_of code l))) (sym (a.locals n)) ∙ asks)

  -- a move that does a deed
  pub record Plays (s : State B) (h : List Deed) (d : Deed) : Type 0 where
    pub state : State B
    pub goes : step ops code s (move_for bound d) ≡ Some state
    pub does : deed_of ops code s h (move_for bound d) ≡ d ∷ []

  module _ (s : State B) (h : List Deed) (reached : IsReached ops code s) (a : Tells ops model bound laws code s h) (none : failed_in h ≡ None) where
    going : s.failed ≡ None
    going = a.failure ∙ none

    module _ (n : Name) (k : ℕ) (v : ℤ) where
      -- a step that wakes no thread is a run
      plays_run : (r : Request) (o : Option Name) (x : Asker s n r) → is_allowed_in ops.buffered h n r ≡ true → k ≡ steps_in h n
          → v ≡ taken_in ops.buffered code h n r → o ≡ created_by ops code n x.thread.local r → move_for bound (Did n k r v o) ≡ move.Run n
          → Plays s h (Did n k r v o)
      plays_run r o x may number takes made named =
          let t = x.thread in
          let i = x.by.instr in
          let within = subst (AsksOf code) x.by.asks (next_asks_within ops code s n t i lawful reached x.there x.by.at) in
          let steps : t.local.steps ≡ k = number_is ops code s h n a.deeds.buffers.threads t x.there ∙ sym number in
          let took : value_taken ops code s t r ≡ v = taken_told ops model bound laws code s h a n t x.there r within ∙ sym takes in
          record {
            state = stepping.perform ops code s n t i r;
            goes =
                ap (step ops code s) named
                ∙ makes_run ops code s n t going x.there i r x.by.at x.by.asks (allowed_told ops model bound laws code s h a n t x.there r within ∙ may);
            does =
                ap (deed_of ops code s h) named
                ∙ ap (λ o. option_map_or (λ t. by_instr ops code t (did ops code s n t)) o []) x.there
                ∙ ap (λ o. option_map_or (λ i. did ops code s n t (request t.local i) ∷ []) o []) x.by.at
                ∙ ap (λ q. did ops code s n t q ∷ []) x.by.asks
                ∙ ap (λ j. Did n j r (value_taken ops code s t r) (created_by ops code n t.local r) ∷ []) steps
                ∙ ap₂ (λ w p. Did n k r w p ∷ []) took (sym made);
          }

      -- a signal that wakes a thread is a wake
      plays_wake : (c : ℕ) (u : Name) (x : Asker s n (WakeOne c)) → (is_nil (stores (pending ops.buffered h n)) && set.contains (waiting_in h c) u) ≡ true
          → k ≡ steps_in h n → v ≡ pos 0 → Plays s h (Did n k (WakeOne c) v (Some u))
      plays_wake c u x may number takes =
          let t = x.thread in
          let signal = signals t.local x.by.instr c x.by.asks in
          let at : instr_of code t.local ≡ Some (Signal c) = x.by.at ∙ ap Some signal in
          let within = next_asks_within ops code s n t (Signal c) lawful reached x.there at in
          let both = and_parts (is_nil (stores (pending ops.buffered h n))) (set.contains (waiting_in h c) u) may in
          let steps : t.local.steps ≡ k = number_is ops code s h n a.deeds.buffers.threads t x.there ∙ sym number in
          record {
            state = stepping.state_after_wake ops s n u t c;
            goes =
                makes_wake ops code s n t going x.there u c at (empty_told ops model bound laws code s h a n t x.there ∙ both.0)
                (ap (λ ns. set.contains ns u) (a.waiters.waiters c within) ∙ both.1);
            does =
                ap (λ o. option_map_or (λ t. by_instr ops code t (woke ops code n u t)) o []) x.there
                ∙ ap (λ o. option_map_or (λ i. woke ops code n u t (request t.local i) ∷ []) o []) at
                ∙ ap₂ (λ j w. Did n j (WakeOne c) w (Some u) ∷ []) steps (sym takes);
          }

      plays_did : (r : Request) (o : Option Name) (x : Asker s n r) → k ≡ steps_in h n → may_do_in ops.buffered h n r o ≡ true
          → v ≡ taken_in ops.buffered code h n r → OtherIs h n r o → Plays s h (Did n k r v o)
      plays_did (WakeOne c) (Some u) x number may takes other = plays_wake c u x may number takes
      plays_did (WakeOne c) None x number may takes other = plays_run (WakeOne c) None x may number takes refl refl
      plays_did (Start f) o x number may takes other =
          let children = children_are ops code s h n a.deeds.buffers.threads x.thread x.there in
          plays_run (Start f) o x may number takes (other ∙ ap (λ j. Some (child n (j + 1))) (sym children)) refl
      plays_did Silent o x number may takes other = plays_run Silent o x may number takes other refl
      plays_did r o x number may takes other = plays_run r o x may number takes other refl

    -- a pending store of a thread, by the number of its step
    record IsPlaced (n : Name) (k c : ℕ) (v : ℤ) : Type 0 where
      older : List Issue
      newer : List Issue
      there : pending_issues ops.buffered h n ≡ older ++ record { number = k; what = Store (record { cell = c; value = v }) } ∷ newer
      is_free : waits bound (whats older) c ≡ false

    placed : (n : Name) (k c : ℕ) (v : ℤ) → IsNextDrain ops.buffered bound h n k c v → IsPlaced n k c v
    placed n k c v d =
        let s = split_by_steps h n a.deeds.named (subst (λ b. Rises (pending_issues b h n)) d.buffers (a.deeds.buffers.numbers n).rises) bound k c v d.next in
        record { older = s.0.older; newer = s.0.newer; there = ap (λ b. pending_issues b h n) d.buffers ∙ s.0.there; is_free = s.1 }

    -- a drain of a pending store that needn't wait is a drain move
    plays_drain : (n : Name) (k c : ℕ) (v : ℤ) → IsPlaced n k c v → (t : Thread B) → fin.get s.threads n ≡ Some t
        → Plays s h (Drained n k c v)
    plays_drain n k c v d t here =
        let e : Entry = record { cell = c; value = v } in
        let form = form_of bound c in
        let split : SplitAt (pending_issues ops.buffered h n) (whats d.older) (Store e) (whats d.newer) =
        record { older = d.older; at = record { number = k; what = Store e }; newer = d.newer; there = d.there; olders = refl; what = refl; newers = refl } in
        let there : pending ops.buffered h n ≡ whats d.older ++ Store e ∷ whats d.newer =
        ap whats d.there ∙ map-append (λ (i : Issue). i.what) d.older _ in
        let out = laws.drain_stands t.buffer (pending ops.buffered h n) form (whats d.older) e (whats d.newer) (a.deeds.buffers.stands n t here)
        (record { there = there; by_form = refl; is_free = d.is_free }) in
        record {
          state = stepping.state_after_drain ops s n t form;
          goes = makes_drain ops code s n t going here form out.may;
          does =
              ap (λ o. option_map_or (λ (x : Thread B). drained ops code h n (ops.drain x.buffer form).entry ∷ []) o []) here
              ∙ ap (λ x. x ∷ [])
              (deed_is ops model bound laws code s (stepping.state_after_drain ops s n t form) h n t form here refl (whats d.older) e (whats d.newer) d.is_free out
              a.deeds.buffers split);
        }

    -- only a thread has something pending
    pending_of_thread : (n : Name) (o : Option (Thread B)) → fin.get s.threads n ≡ o → (older newer : List Issue) (x : Issue)
        → pending_issues ops.buffered h n ≡ older ++ x ∷ newer → (t : Thread B) × (fin.get s.threads n ≡ Some t)
    pending_of_thread n (Some t) here older newer x there = (t, here)
    pending_of_thread n None here older newer x there =
        let below = all_in (λ i. i.number < steps_in h n) (pending_issues ops.buffered h n) x (a.deeds.buffers.numbers n).below
        (subst (In x) (sym there) (in_at older x newer)) in
        absurd (omega (arith, below, none_done ops code s h n a.deeds.buffers.threads here))

    -- each deed that may follow is done by a move
    pub plays : (d : Deed) → MayFollow ops.buffered bound code h d → Plays s h d
    plays (Did n k r v o) m = plays_did n k v r o (asker s h n r a m.asks) m.number m.may m.takes m.other_is
    plays (Drained n k c v) m =
        let d = placed n k c v m in
        let t = pending_of_thread n (fin.get s.threads n) refl d.older d.newer _ d.there in
        plays_drain n k c v d t.0 t.1

  -- the state to which the moves of some deeds lead, and their history
  record PlaysAll (s : State B) (h ds : List Deed) : Type 0 where
    state : State B
    leads : run_from ops code s (moves_for bound ds) ≡ Some state
    did : history_from ops code s h (moves_for bound ds) ≡ h ++ ds

  plays_all : (s : State B) (h ds : List Deed) → IsReached ops code s → Tells ops model bound laws code s h → AllFollow ops.buffered bound code (h ++ ds)
      → PlaysAll s h ds
  plays_all s h [] reached a all = record { state = s; leads = refl; did = sym (append-nil h) }
  plays_all s h (d ∷ ds) reached a all =
      let may = all h ds d refl in
      let one = plays s h reached a may.0 d may.1 in
      let b = subst (λ x. Tells ops model bound laws code one.state (h ++ x)) one.does
      (kept_by_step ops code (Tells ops model bound laws code) (keeps_tells ops model bound laws code) s one.state h (move_for bound d) reached one.goes a) in
      let joined : (h ++ d ∷ []) ++ ds ≡ h ++ d ∷ ds = append_assoc h (d ∷ []) ds in
      let rest = plays_all one.state (h ++ d ∷ []) ds (step_is_reached ops code s one.state (move_for bound d) one.goes reached) b
      (subst (AllFollow ops.buffered bound code) (sym joined) all) in
      record {
        state = rest.state;
        leads = ap (option_and_then (λ u. run_from ops code u (moves_for bound ds))) one.goes ∙ rest.leads;
        did =
            ap (λ o. option_map_or (λ u. history_from ops code u (h ++ deed_of ops code s h (move_for bound d)) (moves_for bound ds)) o h) one.goes
            ∙ ap (λ x. history_from ops code one.state (h ++ x) (moves_for bound ds)) one.does
            ∙ rest.did ∙ joined;
      }

  -- deeds each of which may follow those before it are those of a run
  pub follows_is_run : (h : List Deed) → AllFollow ops.buffered bound code h
      → (s : State B) × (run ops code (moves_for bound h) ≡ Some s) × (history ops code (moves_for bound h) ≡ h)
  follows_is_run h all =
      let p = plays_all (opening ops code) [] h (opening_is_reached ops code) (opening_tells ops model bound laws code) all in
      (p.state, p.leads, p.did)
