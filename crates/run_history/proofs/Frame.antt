-- A fact of state and history that each deed keeps holds after each run.
use Rattle.std.proofs.Common.{◌≡◌, ℕ, List, [], ◌∷◌, ◌++◌, IsTrue, Option, Some, None, refl, sym, ap, subst}
use Rattle.std.specs.Option.{option_map_or}
use Rattle.std.specs.FinMap as fin
use Rattle.std.specs.FinSet as set
use Rattle.std.proofs.lemmas.Option.{same_Some, option_and_then_some}
use Rattle.store_buffers.specs.tc_base.Names.{Name}
use Rattle.store_buffers.specs.tc_base.Buffers.{BufferOps}
use Rattle.store_buffers.specs.tc_base.States.{Thread, State}
use Rattle.store_buffers.specs.tc_base.declared.moves.Move.{Move}
use Rattle.store_buffers.specs.tc_base.declared.moves.Move.TheVariants as move
use Rattle.store_buffers.specs.tc_base.declared.request.Request.{Request}
use Rattle.store_buffers.specs.tc_base.declared.request.Request.TheVariants.{WakeOne}
use Rattle.run_laws.specs.tc_code.declared.instr.Instr.{Instr}
use Rattle.run_laws.specs.tc_code.declared.instr.Instr.TheVariants.{Signal}
use Rattle.run_laws.specs.tc_code.Code.{Code}
use Rattle.run_laws.specs.tc_code.Step.{request, instr_of, allows, perform, waiting_on, state_after_wake, step, opening}
use Rattle.run_laws.specs.tc_code.Step as machine
use Rattle.run_laws.specs.tc_code.Run.{run_from, run, IsReached}
use Rattle.run_laws.proofs.tc_code.Facts.{opening_is_reached, step_is_reached}
use Rattle.run_laws.proofs.Steps.{Went, step_went, none_failed}
use Rattle.run_history.specs.History.{Deed, did, woke, drained, by_instr, deed_of, history_from, history}

module _ {B : Type 0} (ops : BufferOps B) (code : Code) where
  -- each deed keeps the relation between state and history
  pub record Keeps (P : State B → List Deed → Type 0) : Type 0 where
    pub ran : (s : State B) (h : List Deed) (n : Name) (t : Thread B) (i : Instr) (r : Request) → IsReached ops code s → s.failed ≡ None
        → fin.get s.threads n ≡ Some t → instr_of code t.local ≡ Some i → request t.local i ≡ r → IsTrue (allows ops s n t r) → P s h
        → P (perform ops code s n t i r) (h ++ did ops code s n t r ∷ [])
    pub waked : (s : State B) (h : List Deed) (n u : Name) (t : Thread B) (c : ℕ) → IsReached ops code s → s.failed ≡ None
        → fin.get s.threads n ≡ Some t → instr_of code t.local ≡ Some (Signal c) → IsTrue (ops.is_empty t.buffer)
        → IsTrue (set.contains (waiting_on s c) u) → P s h → P (state_after_wake ops s n u t c) (h ++ woke ops code n u t (WakeOne c) ∷ [])
    pub flushed : (s : State B) (h : List Deed) (n : Name) (t : Thread B) (form : Option ℕ) → IsReached ops code s → s.failed ≡ None
        → fin.get s.threads n ≡ Some t → IsTrue (ops.may_drain t.buffer form) → P s h
        → P (machine.state_after_drain ops s n t form) (h ++ drained ops code h n (ops.drain t.buffer form).entry ∷ [])

  module _ (P : State B → List Deed → Type 0) (keeps : Keeps P) where
    kept_by_move : (s u : State B) (h : List Deed) (m : Move) → IsReached ops code s → s.failed ≡ None → Went ops code s u m → P s h
        → P u (h ++ deed_of ops code s h m)
    kept_by_move s u h (move.Run n) reached going g p =
        subst (P u) (sym (ap (λ o. h ++ option_map_or (λ t. by_instr ops code t (did ops code s n t)) o []) g.there))
        (subst (P u) (sym (ap (λ o. h ++ option_map_or (λ i. did ops code s n g.thread (request g.thread.local i) ∷ []) o []) g.at))
        (subst (λ x. P x (h ++ did ops code s n g.thread (request g.thread.local g.instr) ∷ [])) (sym g.after)
        (keeps.ran s h n g.thread g.instr _ reached going g.there g.at refl g.allowed p)))
    kept_by_move s u h (move.Wake n v) reached going g p =
        subst (P u) (sym (ap (λ o. h ++ option_map_or (λ t. by_instr ops code t (woke ops code n v t)) o []) g.there))
        (subst (P u) (sym (ap (λ o. h ++ option_map_or (λ i. woke ops code n v g.thread (request g.thread.local i) ∷ []) o []) g.at))
        (subst (λ x. P x (h ++ woke ops code n v g.thread (WakeOne g.condition) ∷ [])) (sym g.after)
        (keeps.waked s h n v g.thread g.condition reached going g.there g.at g.empty g.waits p)))
    kept_by_move s u h (move.Drain n form) reached going g p =
        subst (P u) (sym (ap (λ o. h ++ option_map_or (λ (t : Thread B). drained ops code h n (ops.drain t.buffer form).entry ∷ []) o []) g.there))
        (subst (λ x. P x (h ++ drained ops code h n (ops.drain g.thread.buffer form).entry ∷ [])) (sym g.after)
        (keeps.flushed s h n g.thread form reached going g.there g.may p))

    -- each move keeps the relation
    pub kept_by_step : (s u : State B) (h : List Deed) (m : Move) → IsReached ops code s → step ops code s m ≡ Some u → P s h
        → P u (h ++ deed_of ops code s h m)
    kept_by_step s u h m reached one p = kept_by_move s u h m reached (none_failed ops code s u m one) (step_went ops code s u m one) p

    kept_by_moves : (s u : State B) (h : List Deed) (ms : List Move) → IsReached ops code s → run_from ops code s ms ≡ Some u → P s h
        → P u (history_from ops code s h ms)
    kept_by_moves s u h [] reached leads p = subst (λ x. P x h) (same_Some s u leads) p
    kept_by_moves s u h (m ∷ ms) reached leads p =
        option_and_then_some (λ v. run_from ops code v ms) (step ops code s m) u leads (λ v one rest.
        subst (P u) (sym (ap (λ o. option_map_or (λ x. history_from ops code x (h ++ deed_of ops code s h m) ms) o h) one))
        (kept_by_moves v u (h ++ deed_of ops code s h m) ms (step_is_reached ops code s v m one reached) rest
        (kept_by_move s v h m reached (none_failed ops code s v m one) (step_went ops code s v m one) p)))

    -- the relation holds after each run if it holds at the start
    pub holds_after : P (opening ops code) [] → (ms : List Move) (s : State B) → run ops code ms ≡ Some s → P s (history ops code ms)
    holds_after start ms s leads = kept_by_moves (opening ops code) s [] ms (opening_is_reached ops code) leads start
