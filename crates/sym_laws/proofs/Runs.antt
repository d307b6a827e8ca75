-- The state of each thread after a run on a log's paths.
use Rattle.std.proofs.Common.{◌≡◌, ◌∙◌, ℕ, ◌+◌, ℤ, List, [], ◌∷◌, ◌++◌}
use Rattle.std.proofs.Common.{true, ◌&&◌, ◌==◌, Option, Some, None, refl, ap, sym, subst, arith}
use Rattle.std.specs.Prelude.{slice_get}
use Rattle.std.specs.Option.{option_map_or}
use Rattle.std.specs.FinMap as fin
use Rattle.std.proofs.lemmas.Option.{same_Some, option_and_then_some}
use Rattle.sym_exec.specs.tc_base.Names.{Name}
use Rattle.sym_exec.specs.tc_base.Buffers.{BufferOps}
use Rattle.sym_exec.specs.run_log.Logs.{Log}
use Rattle.sym_exec.specs.tc_base.Paths.{Path, ThreadPath, path_under}
use Rattle.sym_exec.specs.tc_base.States.{Thread, State}
use Rattle.sym_exec.specs.tc_base.declared.moves.Move.{Move}
use Rattle.sym_exec.specs.tc_base.declared.moves.Move.TheVariants as move
use Rattle.sym_exec.specs.tc_base.declared.request.Request.TheVariants.{WakeOne}
use Rattle.sym_exec.specs.tc_code.Code.{Code}
use Rattle.sym_exec.specs.tc_code.declared.instr.Instr.{Instr}
use Rattle.sym_exec.specs.tc_code.declared.instr.Instr.TheVariants.{Signal}
use Rattle.sym_exec.specs.tc_code.Lawful.{IsLawful}
use Rattle.sym_exec.specs.tc_code.Run.{run_from, run, IsReached}
use Rattle.sym_exec.proofs.tc_code.Facts.{opening_is_reached, step_is_reached, placed as placed_at}
use Rattle.sym_exec.specs.tc_code.Step.{request, step, opening}
use Rattle.sym_exec.specs.run_laws.Ints.{PassesInts}
use Rattle.sym_exec.proofs.run_laws.Ints.{values_are_ints, asks_ints}
use Rattle.sym_exec.proofs.run_laws.Steps.{Went, Ran, Woke, Drained, step_went, none_failed}
use Rattle.path_laws.specs.run_history.History.{Deed, Did, value_taken, created_by, did, woke, drained, by_instr, deed_of, history_from, history}
use Rattle.path_laws.proofs.run_history.Frame.{kept_by_step}
use Rattle.path_laws.proofs.run_history.Ints.{taken_int}
use Rattle.path_laws.proofs.run_history.Threads.{ThreadsAre, own, keeps_threads, opening_threads}
use Rattle.sym_exec.specs.run_log.Logs.{is_log}
use Rattle.path_laws.proofs.Does.{Does, Drains, ran_does, woke_does, flush_drains, own_there}
use Rattle.path_laws.proofs.Prefixes.{on_before_step, so_far, step_is_onward}
use Rattle.sym_exec.specs.path_walk.Fits.{fails_in, function_of, Fits}
use Rattle.sym_exec.specs.sym_terms.Terms.{AreTerms}
use Rattle.sym_exec.specs.sym_terms.declared.node.Node.{Node}
use Rattle.sym_exec.specs.Executed.{Executed}
use Rattle.path_laws.specs.Prefixes.{AreOnPaths}
use Rattle.sym_laws.specs.Valued.{AgreesWith, found}
use Rattle.sym_laws.proofs.Lists.{in_front}
use Rattle.path_laws.proofs.Logs.{place_of}
use Rattle.sym_laws.proofs.Names.{one_place}
use Rattle.sym_laws.proofs.Follows.{GoesOnPath}
use Rattle.sym_laws.proofs.Moves.{AllFollow, all_follow, drained_follow, opening_follows}

-- loads that agree with a history agree with a first part of it
agrees_before : (x : Executed) (loads : List ℤ) (h more : List Deed) → AgreesWith x.symbolic loads (h ++ more) → AgreesWith x.symbolic loads h
agrees_before x loads h more agrees c a m r took other ic ia takes is =
    agrees c a m r took other ic ia takes (in_front (Did c.name a.step r took other) h more is)

module _ {B : Type 0} (ops : BufferOps B) (code : Code) (log : Log) (nodes : List Node) (loads : List ℤ) (ints : PassesInts ops) (lawful : IsLawful code)
    (is : is_log log ≡ true) (fits : Fits code log) (terms : AreTerms nodes) where
  abbrev Follow : State B → List Deed → Type 0
  Follow s h = AllFollow ops code log nodes loads lawful is terms s h

  abbrev Agrees : List Deed → Type 0
  Agrees h = AgreesWith (found code log nodes).symbolic loads h

  abbrev taken_in : State B → Thread B → Instr → ℤ
  taken_in s t i = value_taken ops code s t (request t.local i)

  -- the facts that each move keeps
  record IsKept (s : State B) (h : List Deed) : Type 0 where
    told : ThreadsAre ops code s h
    follow : AreOnPaths log s → Agrees h → Follow s h

  -- a move is a step of a thread, with this deed
  record IsStepOf (s u : State B) (deeds : List Deed) (n : Name) : Type 0 where
    thread : Thread B
    instr : Instr
    does : Does ops code s u n thread instr (request thread.local instr)
    other : Option Name
    deed : deeds ≡ Did n thread.local.steps (request thread.local instr) (taken_in s thread instr) other ∷ []

  -- A move.
  module _ (s u : State B) (h : List Deed) (m : Move) (reached : IsReached ops code s) (one : step ops code s m ≡ Some u) (kept : IsKept s h)
      (on : AreOnPaths log u) (agrees : Agrees (h ++ deed_of ops code s h m)) where
    going : s.failed ≡ None
    going = none_failed ops code s u m one

    on_s : AreOnPaths log s
    on_s = on_before_step ops code log s u m reached one on

    follow_s : Follow s h
    follow_s = kept.follow on_s (agrees_before (found code log nodes) loads h (deed_of ops code s h m) agrees)

    functions : (q : Name) (x : Thread B) → fin.get u.threads q ≡ Some x → function_of code log q ≡ Some x.local.function
    functions q x at = (so_far ops code lawful log fits u (step_is_reached ops code s u m one reached) on q x at).function

    -- a step of a thread is one on its path
    goes_at : (j : ℕ) (p : ThreadPath) → slice_get log.threads j ≡ Some p → (t : Thread B) (i : Instr)
        → Does ops code s u p.name t i (request t.local i) → GoesOnPath code log p t.local i (taken_in s t i)
    goes_at j p there t i does =
        let r = request t.local i in
        let g = step_is_onward ops code lawful log fits s u p.name t i r reached going does on in
        let path : (x : Path) → path_under p.name log.threads ≡ Some x → p.path ≡ x = λ x under.
        let place = place_of p.name x log.threads under in
        let e = one_place log is place.place j place.thread p place.there there place.name in
        let same : place.thread ≡ p = same_Some place.thread p (sym place.there ∙ ap (slice_get log.threads) e ∙ there) in
        ap (λ (q : ThreadPath). q.path) (sym same) ∙ place.path in
        let before = path g.before.on.path g.before.on.there in
        let after = on p.name (own ops code s t i r) (own_there ops code s u p.name t i r reached does) in
        let has = values_are_ints ops code ints lawful s reached in
        let is_placed = placed_at code t.local.function t.local.instruction i lawful g.at in
        record {
          function = g.before.function;
          long = g.before.count ∙ ap (λ (x : Path). x.steps) (sym before);
          places = g.next;
          at = g.at;
          within = let e = ap (λ (x : Path). x.steps) before in omega (arith, g.within, e);
          fails = g.fails ∙ ap (λ (x : Path). fails_in log p.name && t.local.steps + 1 == x.steps) (sym before);
          later = after.later;
          outcomes = ap (λ (x : Path). x.outcomes) (path after.path after.there) ∙ after.outcomes;
          took = taken_int ops code ints lawful s t r has (has.threads p.name t does.there);
          asks = asks_ints t.local (has.threads p.name t does.there).slots i (is_placed.lawful.ints t.local.instruction i is_placed.at);
        }

    abbrev Placed : Name → Type 0
    Placed n = (j : ℕ) × (p : ThreadPath) × (slice_get log.threads j ≡ Some p) × (p.name ≡ n)

    placed : (n : Name) (t : Thread B) → fin.get s.threads n ≡ Some t → Placed n
    placed n t there =
        let at = on_s n t there in
        let place = place_of n at.path log.threads at.there in
        (place.place, place.thread, place.there, place.name)

    -- threads follow their terms after the step
    step_follow : (deeds : List Deed) (n : Name) → IsStepOf s u deeds n → Agrees (h ++ deeds) → Follow u (h ++ deeds)
    step_follow deeds n by agrees =
        let at = placed n by.thread by.does.there in
        let st : IsStepOf s u deeds at.1.name = subst (IsStepOf s u deeds) (sym at.3) by in
        subst (λ ds. Follow u (h ++ ds)) (sym st.deed)
        (all_follow ops code log nodes loads lawful is terms s u h at.0 at.1 at.2 st.thread st.instr st.other reached st.does kept.told follow_s functions
        (goes_at at.0 at.1 at.2 st.thread st.instr st.does) (subst (λ ds. Agrees (h ++ ds)) st.deed agrees))

    ran : (n : Name) → Ran ops code s u n → IsStepOf s u (deed_of ops code s h (move.Run n)) n
    ran n g =
        let r = request g.thread.local g.instr in
        record {
          thread = g.thread;
          instr = g.instr;
          does = subst (λ u. Does ops code s u n g.thread g.instr r) (sym g.after) (ran_does ops code s n g.thread g.instr r going g.there g.at refl);
          other = created_by ops code n g.thread.local r;
          deed = ap (λ o. option_map_or (λ t. by_instr ops code t (did ops code s n t)) o []) g.there
              ∙ ap (λ o. option_map_or (λ i. did ops code s n g.thread (request g.thread.local i) ∷ []) o []) g.at;
        }

    woken : (n v : Name) → Woke ops code s u n v → IsStepOf s u (deed_of ops code s h (move.Wake n v)) n
    woken n v g = record {
      thread = g.thread;
      instr = Signal g.condition;
      does = subst (λ u. Does ops code s u n g.thread (Signal g.condition) (WakeOne g.condition)) (sym g.after)
          (woke_does ops code s n v g.thread g.condition going g.there g.at);
      other = Some v;
      deed = ap (λ o. option_map_or (λ t. by_instr ops code t (woke ops code n v t)) o []) g.there
          ∙ ap (λ o. option_map_or (λ i. woke ops code n v g.thread (request g.thread.local i) ∷ []) o []) g.at;
    }

    drain_follow : (n : Name) (form : Option ℕ) → Drained ops code s u n form → Follow u (h ++ deed_of ops code s h (move.Drain n form))
    drain_follow n form g =
        let deed : deed_of ops code s h (move.Drain n form) ≡ drained ops code h n (ops.drain g.thread.buffer form).entry ∷ [] =
        ap (λ o. option_map_or (λ (t : Thread B). drained ops code h n (ops.drain t.buffer form).entry ∷ []) o []) g.there in
        subst (λ ds. Follow u (h ++ ds)) (sym deed)
        (drained_follow ops code log nodes loads lawful is terms s u h n g.thread (ops.drain g.thread.buffer form).rest _ _ _
        (subst (λ u. Drains ops code s u n g.thread (ops.drain g.thread.buffer form).rest) (sym g.after)
        (flush_drains ops code s n g.thread form going g.there)) follow_s)

    by_went : (m : Move) → Went ops code s u m → Agrees (h ++ deed_of ops code s h m) → Follow u (h ++ deed_of ops code s h m)
    by_went (move.Run n) g agrees = step_follow (deed_of ops code s h (move.Run n)) n (ran n g) agrees
    by_went (move.Wake n v) g agrees = step_follow (deed_of ops code s h (move.Wake n v)) n (woken n v g) agrees
    by_went (move.Drain n form) g agrees = drain_follow n form g

    move_follow : Follow u (h ++ deed_of ops code s h m)
    move_follow = by_went m (step_went ops code s u m one) agrees

  -- each move keeps these facts
  move_keeps : (s u : State B) (h : List Deed) (m : Move) → IsReached ops code s → step ops code s m ≡ Some u → IsKept s h
      → IsKept u (h ++ deed_of ops code s h m)
  move_keeps s u h m reached one kept = record {
    told = kept_by_step ops code (ThreadsAre ops code) (keeps_threads ops code) s u h m reached one kept.told;
    follow = λ on agrees. move_follow s u h m reached one kept on agrees;
  }

  moves_keep : (s u : State B) (h : List Deed) (ms : List Move) → IsReached ops code s → run_from ops code s ms ≡ Some u → IsKept s h
      → IsKept u (history_from ops code s h ms)
  moves_keep s u h [] reached leads kept = subst (λ x. IsKept x h) (same_Some s u leads) kept
  moves_keep s u h (m ∷ ms) reached leads kept =
      option_and_then_some (λ v. run_from ops code v ms) (step ops code s m) u leads (λ v one rest.
      subst (IsKept u) (sym (ap (λ o. option_map_or (λ x. history_from ops code x (h ++ deed_of ops code s h m) ms) o h) one))
      (moves_keep v u (h ++ deed_of ops code s h m) ms (step_is_reached ops code s v m one reached) rest (move_keeps s v h m reached one kept)))

  -- threads follow their terms after each run on the paths
  pub follow_after : (moves : List Move) (s : State B) → run ops code moves ≡ Some s → AreOnPaths log s
      → AgreesWith (found code log nodes).symbolic loads (history ops code moves) → Follow s (history ops code moves)
  follow_after moves s leads on agrees =
      let start : IsKept (opening ops code) [] =
      record { told = opening_threads ops code; follow = λ on agrees. opening_follows ops code log nodes loads lawful is terms } in
      (moves_keep (opening ops code) s [] moves (opening_is_reached ops code) leads start).follow on agrees
