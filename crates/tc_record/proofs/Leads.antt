-- The moves of a seeded run lead to its state.
use Rattle.std.proofs.Common.{◌≡◌, ◌∙◌, ℕ, List, [], ◌∷◌, Option, Some, None, refl, ap}
use Rattle.std.specs.Prelude.{option_and_then}
use Rattle.std.specs.Option.{option_map_or}
use Rattle.rand_core.specs.Steps.{first_words}
use Rattle.rand_xoshiro.specs.SplitMix64.{mix_u64}
use Rattle.tc_base.specs.Buffers.{BufferOps}
use Rattle.tc_base.specs.States.{State}
use Rattle.tc_base.specs.declared.moves.Move.{Move}
use Rattle.tc_code.specs.Code.{Code}
use Rattle.tc_code.specs.Step.{step, opening}
use Rattle.tc_code.specs.Run.{run, run_from}
use Rattle.tc_record.specs.declared.end.End.{End}
use Rattle.tc_record.specs.declared.end.End.TheVariants as end
use Rattle.tc_record.specs.Ends.{end_at, end_without_moves}
use Rattle.tc_record.specs.Seeded.{Ended, run_ended_at, with_moves_before, chosen_move, run_by_move, seeded_from, seeded_run}

module _ {B : Type 0} (ops : BufferOps B) (code : Code) where
  abbrev Leads : State B → Ended B → Type 0
  Leads s r = run_from ops code s r.moves ≡ Some r.state

  module _ (s u : State B) (m : Move) (one : step ops code s m ≡ Some u) where
    leads_behind : (r : Ended B) → Leads u r → Leads s (with_moves_before (m ∷ []) r)
    leads_behind r h = ap (option_and_then (λ v. run_from ops code v r.moves)) one ∙ h

    leads_either : (o : Option End) (r : Ended B) → Leads u r → Leads s (with_moves_before (m ∷ []) (option_map_or (run_ended_at u) o r))
    leads_either None r h = leads_behind r h
    leads_either (Some e) r h = leads_behind (run_ended_at u e) refl

  module _ (s : State B) (on : State B → Ended B) (goes : (u : State B) → Leads u (on u)) where
    leads_made : (m : Move) (o : Option (State B)) → step ops code s m ≡ o
        → Leads s (option_map_or (λ u. with_moves_before (m ∷ []) (option_map_or (run_ended_at u) (end_at u) (on u))) o (run_ended_at s end.StepLimit))
    leads_made m None e = refl
    leads_made m (Some u) e = leads_either s u m e (end_at u) (on u) (goes u)

    leads_chosen : (o : Option Move) (e : End) → Leads s (option_map_or (run_by_move ops code s on) o (run_ended_at s e))
    leads_chosen None e = refl
    leads_chosen (Some m) e = leads_made m (step ops code s m) refl

  leads_from : (ws : List ℕ) (s : State B) → Leads s (seeded_from ops code s ws)
  leads_from [] s = refl
  leads_from (w ∷ ws) s = leads_chosen s (λ u. seeded_from ops code u ws) (leads_from ws) (chosen_move ops code s w) (end_without_moves s)

  -- the moves of a seeded run lead to its state
  pub run_leads : (seed steps : ℕ) → run ops code (seeded_run ops code seed steps).moves ≡ Some (seeded_run ops code seed steps).state
  run_leads seed steps = leads_from (first_words mix_u64 steps seed) (opening ops code)
