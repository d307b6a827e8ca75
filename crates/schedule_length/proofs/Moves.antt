-- The deeds of moves, by their numbers.
use Rattle.std.proofs.Common.{◌≡◌, ◌∙◌, ◌+◌, ◌≤◌, Bool, true, false, List, [], ◌∷◌, ◌++◌, Some, ap, arith}
use Rattle.std.specs.List.{count_by}
use Rattle.std.specs.Option.{option_map_or}
use Rattle.std.proofs.lemmas.Option.{option_and_then_some}
use Rattle.path_log.specs.tc_base.Buffers.{BufferOps}
use Rattle.path_log.specs.tc_base.States.{Thread, State}
use Rattle.path_log.specs.tc_base.declared.moves.Move.{Move}
use Rattle.path_log.specs.tc_base.declared.moves.Move.TheVariants.{Run, Wake, Drain}
use Rattle.path_log.specs.tc_base.declared.request.Request.TheVariants.{WakeOne}
use Rattle.path_laws.specs.tc_code.Code.{Code}
use Rattle.path_laws.specs.tc_code.Run.{run_from, run}
use Rattle.path_laws.specs.tc_code.Step.{request, step, opening}
use Rattle.path_laws.proofs.run_laws.Steps.{Went, step_went}
use Rattle.path_laws.specs.run_history.History.{Deed, Did, Drained, did, woke, drained, by_instr, deed_of, history_from, history}
use Rattle.schedule_length.proofs.Counts.{tally, count-cons, count-append}
use Rattle.schedule_length.proofs.Lines.{is_run, is_seldom}

-- a step of a thread
abbrev pub is_step : Deed → Bool
is_step (Did n k r took other) = true
is_step _ = false

-- a signal, or a drain
abbrev pub is_long : Deed → Bool
is_long (Did n k (WakeOne c) took other) = true
is_long (Did n k r took other) = false
is_long (Drained n k c v) = true

module _ {B : Type 0} (ops : BufferOps B) (code : Code) where
  -- a counted move does a counted deed
  abbrev AreCounted : (Move → Bool) → (Deed → Bool) → Type 0
  AreCounted p q = (s u : State B) (h : List Deed) (m : Move) → Went ops code s u m → tally (p m) ≤ count_by q (deed_of ops code s h m)

  counted_from : (p : Move → Bool) (q : Deed → Bool) → AreCounted p q → (s u : State B) (h : List Deed) (ms : List Move)
      → run_from ops code s ms ≡ Some u → count_by q h + count_by p ms ≤ count_by q (history_from ops code s h ms)
  counted_from p q counted s u h [] leads = omega arith
  counted_from p q counted s u h (m ∷ ms) leads =
      option_and_then_some (λ v. run_from ops code v ms) (step ops code s m) u leads (λ v one rest.
      let is = ap (λ o. count_by q (option_map_or (λ x. history_from ops code x (h ++ deed_of ops code s h m) ms) o h)) one in
      let later = counted_from p q counted v u (h ++ deed_of ops code s h m) ms rest in
      let more = count-append q h (deed_of ops code s h m) in
      let first = counted s v h m (step_went ops code s v m one) in
      let all = count-cons p m ms in
      omega (arith, is, later, more, first, all))

  counted_in : (p : Move → Bool) (q : Deed → Bool) → AreCounted p q → (ms : List Move) (s : State B) → run ops code ms ≡ Some s
      → count_by p ms ≤ count_by q (history ops code ms)
  counted_in p q counted ms s leads =
      let all = counted_from p q counted (opening ops code) s [] ms leads in
      omega (arith, all)

  runs : AreCounted is_run is_step
  runs s u h (Run n) g =
      let e =
      ap (λ o. count_by is_step (option_map_or (λ t. by_instr ops code t (did ops code s n t)) o [])) g.there
      ∙ ap (λ o. count_by is_step (option_map_or (λ i. did ops code s n g.thread (request g.thread.local i) ∷ []) o [])) g.at in
      omega (arith, e)
  runs s u h (Wake n v) g = omega arith
  runs s u h (Drain n form) g = omega arith

  seldom : AreCounted is_seldom is_long
  seldom s u h (Run n) g = omega arith
  seldom s u h (Wake n v) g =
      let e =
      ap (λ o. count_by is_long (option_map_or (λ t. by_instr ops code t (woke ops code n v t)) o [])) g.there
      ∙ ap (λ o. count_by is_long (option_map_or (λ i. woke ops code n v g.thread (request g.thread.local i) ∷ []) o [])) g.at in
      omega (arith, e)
  seldom s u h (Drain n form) g =
      let e = ap (λ o. count_by is_long (option_map_or (λ (t : Thread B). drained ops code h n (ops.drain t.buffer form).entry ∷ []) o [])) g.there in
      omega (arith, e)

  -- each run is a step, and each other move a signal or a drain
  pub runs_are_steps : (ms : List Move) (s : State B) → run ops code ms ≡ Some s → count_by is_run ms ≤ count_by is_step (history ops code ms)
  runs_are_steps = counted_in is_run is_step runs

  pub others_are_long : (ms : List Move) (s : State B) → run ops code ms ≡ Some s → count_by is_seldom ms ≤ count_by is_long (history ops code ms)
  others_are_long = counted_in is_seldom is_long seldom
