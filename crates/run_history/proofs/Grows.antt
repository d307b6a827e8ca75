-- Each move adds one deed to a history.
use Rattle.std.proofs.Common.{◌≡◌, ◌∙◌, ◌+◌, List, [], ◌∷◌, ◌++◌, length, Some, sym, ap, arith, append-nil, append_assoc, length-append}
use Rattle.std.specs.Option.{option_map_or}
use Rattle.std.proofs.lemmas.Option.{same_Some, option_and_then_some}
use Rattle.store_buffers.specs.tc_base.Buffers.{BufferOps}
use Rattle.store_buffers.specs.tc_base.States.{Thread, State}
use Rattle.store_buffers.specs.tc_base.declared.moves.Move.{Move}
use Rattle.store_buffers.specs.tc_base.declared.moves.Move.TheVariants as move
use Rattle.run_laws.specs.tc_code.Code.{Code}
use Rattle.run_laws.specs.tc_code.Step.{request, step, opening}
use Rattle.run_laws.specs.tc_code.Run.{run_from, run}
use Rattle.run_laws.proofs.tc_code.Facts.{run_from-append}
use Rattle.run_laws.proofs.Steps.{Went, step_went}
use Rattle.run_history.specs.History.{Deed, did, woke, drained, by_instr, deed_of, history_from, history}

module _ {B : Type 0} (ops : BufferOps B) (code : Code) where
  -- the history after some moves and then others
  pub history_from-append : (s u : State B) (h : List Deed) (xs ys : List Move) → run_from ops code s xs ≡ Some u
      → history_from ops code s h (xs ++ ys) ≡ history_from ops code u (history_from ops code s h xs) ys
  history_from-append s u h [] ys leads = ap (λ x. history_from ops code x h ys) (same_Some s u leads)
  history_from-append s u h (m ∷ xs) ys leads =
      option_and_then_some (λ v. run_from ops code v xs) (step ops code s m) u leads (λ v one rest.
      ap (λ o. option_map_or (λ x. history_from ops code x (h ++ deed_of ops code s h m) (xs ++ ys)) o h) one
      ∙ history_from-append v u (h ++ deed_of ops code s h m) xs ys rest
      ∙ ap (λ g. history_from ops code u g ys)
      (sym (ap (λ o. option_map_or (λ x. history_from ops code x (h ++ deed_of ops code s h m) xs) o h) one)))

  pub moves_add_deeds : (ms : List Move) (s u : State B) (m : Move) → run ops code ms ≡ Some s → step ops code s m ≡ Some u
      → history ops code (ms ++ m ∷ []) ≡ history ops code ms ++ deed_of ops code s (history ops code ms) m
  moves_add_deeds ms s u m leads one =
      history_from-append (opening ops code) s [] ms (m ∷ []) leads
      ∙ ap (λ o. option_map_or (λ x. history ops code ms ++ deed_of ops code s (history ops code ms) m) o (history ops code ms)) one

  -- each move adds one deed
  pub one_deed : (s u : State B) (h : List Deed) (m : Move) → Went ops code s u m → length (deed_of ops code s h m) ≡ 1
  one_deed s u h (move.Run n) g =
      ap (λ o. length (option_map_or (λ t. by_instr ops code t (did ops code s n t)) o [])) g.there
      ∙ ap (λ o. length (option_map_or (λ i. did ops code s n g.thread (request g.thread.local i) ∷ []) o [])) g.at
  one_deed s u h (move.Wake n v) g =
      ap (λ o. length (option_map_or (λ t. by_instr ops code t (woke ops code n v t)) o [])) g.there
      ∙ ap (λ o. length (option_map_or (λ i. woke ops code n v g.thread (request g.thread.local i) ∷ []) o [])) g.at
  one_deed s u h (move.Drain n form) g =
      ap (λ o. length (option_map_or (λ (t : Thread B). drained ops code h n (ops.drain t.buffer form).entry ∷ []) o [])) g.there

  deeds_by_moves : (s u : State B) (h : List Deed) (ms : List Move) → run_from ops code s ms ≡ Some u
      → length (history_from ops code s h ms) ≡ length h + length ms
  deeds_by_moves s u h [] leads = omega arith
  deeds_by_moves s u h (m ∷ ms) leads =
      option_and_then_some (λ v. run_from ops code v ms) (step ops code s m) u leads (λ v one rest.
      let is = ap (λ o. length (option_map_or (λ x. history_from ops code x (h ++ deed_of ops code s h m) ms) o h)) one in
      let later = deeds_by_moves v u (h ++ deed_of ops code s h m) ms rest in
      let more = length-append h (deed_of ops code s h m) in
      let first = one_deed s v h m (step_went ops code s v m one) in
      omega (arith, is, later, more, first))

  pub one_deed_a_move : (ms : List Move) (s : State B) → run ops code ms ≡ Some s → length (history ops code ms) ≡ length ms
  one_deed_a_move ms s leads = let e = deeds_by_moves (opening ops code) s [] ms leads in e ∙ omega arith

  -- a run only adds to the history
  only_grows : (s u : State B) (h : List Deed) (ms : List Move) → run_from ops code s ms ≡ Some u
      → (later : List Deed) × (history_from ops code s h ms ≡ h ++ later)
  only_grows s u h [] leads = ([], sym (append-nil h))
  only_grows s u h (m ∷ ms) leads =
      option_and_then_some (λ v. run_from ops code v ms) (step ops code s m) u leads (λ v one rest.
      let more = only_grows v u (h ++ deed_of ops code s h m) ms rest in (
        deed_of ops code s h m ++ more.0,
        ap (λ o. option_map_or (λ x. history_from ops code x (h ++ deed_of ops code s h m) ms) o h) one ∙ more.1
            ∙ append_assoc h (deed_of ops code s h m) more.0,
      ))

  pub histories_begin : (xs ys : List Move) (s : State B) → run ops code (xs ++ ys) ≡ Some s
      → (later : List Deed) × (history ops code (xs ++ ys) ≡ history ops code xs ++ later)
  histories_begin xs ys s leads =
      option_and_then_some (λ u. run_from ops code u ys) (run ops code xs) s (sym (run_from-append ops code (opening ops code) xs ys) ∙ leads)
      (λ u first rest.
      let more = only_grows u s (history ops code xs) ys rest in
      (more.0, history_from-append (opening ops code) u [] xs ys first ∙ more.1))
