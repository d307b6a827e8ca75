-- The history determines whether a state is stuck.
use Rattle.std.proofs.Common.{◌≡◌, ◌↔◌, ◌∙◌, false, List, [], ◌∷◌, ◌++◌, length, Some, refl, sym, ap, arith}
use Rattle.std.specs.Prelude.{is_some}
use Rattle.std.specs.Option.{option_map_or}
use Rattle.std.specs.FinMap as fin
use Rattle.std.proofs.lemmas.Option.{none-some}
use Rattle.run_history.specs.tc_base.Names.{Name}
use Rattle.run_history.specs.tc_base.States.{Thread, State}
use Rattle.run_history.specs.tc_base.declared.moves.Move.{Move}
use Rattle.run_history.specs.tc_code.Step.{step}
use Rattle.run_history.specs.tc_code.Run.{IsReached, IsLeft, IsStuck, run}
use Rattle.run_history.proofs.run_laws.Basics.{none_unless, some_value}
use Rattle.run_history.proofs.run_laws.Steps.{step_went}
use Rattle.run_history.specs.History.{Deed, deed_of, history}
use Rattle.run_history.proofs.Frame.{kept_by_step}
use Rattle.run_history.proofs.Grows.{one_deed}
use Rattle.run_follows.specs.Machine.{Machine}
use Rattle.run_follows.specs.Follow.{MayFollow, move_for, IsLeftIn, IsStuckIn}
use Rattle.run_follows.proofs.Enabled.{Tells}
use Rattle.run_follows.proofs.Follows.{AllTold, keeps_all, all_told}
use Rattle.run_follows.proofs.Plays.{plays}

the_one : {A : Type 0} (xs : List A) → length xs ≡ 1 → (x : A) × (xs ≡ x ∷ [])
the_one [] e = absurd (omega (arith, e))
the_one (x ∷ []) e = (x, refl)
the_one (x ∷ y ∷ xs) e = absurd (omega (arith, e))

module _ {B : Type 0} (machine : Machine B) where
  open machine use {ops, model, bound, laws, code}

  module _ (s : State B) (h : List Deed) (a : Tells ops model bound laws code s h) (n : Name) where
    pub left_told : IsLeft s n → IsLeftIn h n
    left_told l = record {
      there = sym (a.deeds.buffers.threads.there n) ∙ ap is_some l.there;
      going = sym (a.deeds.buffers.threads.exits n) ∙ ap (λ o. option_map_or (λ (t : Thread B). t.local.has_exited) o false) l.there ∙ l.going;
    }

    pub left_there : IsLeftIn h n → IsLeft s n
    left_there l =
        let t = some_value (fin.get s.threads n) (a.deeds.buffers.threads.there n ∙ l.there) in
        record {
          thread = t.0;
          there = t.1;
          going =
              sym (ap (λ o. option_map_or (λ (t : Thread B). t.local.has_exited) o false) t.1) ∙ a.deeds.buffers.threads.exits n ∙ l.going;
        }

  module _ (s : State B) (h : List Deed) (reached : IsReached ops code s) (a : AllTold machine s h) where
    -- an enabled move does a deed that may follow
    does : (m : Move) (u : State B) → step ops code s m ≡ Some u → (d : Deed) × MayFollow ops.buffered bound code h d
    does m u one =
        let d = the_one (deed_of ops code s h m) (one_deed ops code s u h m (step_went ops code s u m one)) in
        let after = kept_by_step ops code (AllTold machine) (keeps_all machine) s u h m reached one a in
        (d.0, (after.follow h [] d.0 (ap (λ ds. h ++ ds) d.1)).1)

    pub stuck_told : IsStuck ops code s → IsStuckIn ops.buffered bound code h
    stuck_told k =
        let none = sym a.tells.failure ∙ k.unfailed in
        record {
          unfailed = none;
          still = λ d may.
              let p = plays machine s h reached a.tells none d may in
              none-some p.state (sym (k.still (move_for bound d)) ∙ p.goes);
          left = (k.left.0, left_told s h a.tells k.left.0 k.left.1);
        }

    pub stuck_there : IsStuckIn ops.buffered bound code h → IsStuck ops code s
    stuck_there k = record {
      unfailed = a.tells.failure ∙ k.unfailed;
      still = λ m.
          none_unless (step ops code s m) (λ is.
          let u = some_value (step ops code s m) is in
          let d = does m u.0 u.1 in
          k.still d.0 d.1);
      left = (k.left.0, left_there s h a.tells k.left.0 k.left.1);
    }

  pub stuck_is_told : (ms : List Move) (s : State B) → run ops code ms ≡ Some s
      → IsStuck ops code s ↔ IsStuckIn ops.buffered bound code (history ops code ms)
  stuck_is_told ms s leads =
      let a = all_told machine ms s leads in
      let reached : IsReached ops code s = record { moves = ms; leads = leads } in
      (stuck_told s (history ops code ms) reached a, stuck_there s (history ops code ms) reached a)
