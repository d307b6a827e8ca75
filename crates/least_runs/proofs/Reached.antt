-- Deeds that follow each other are the history of a run, and lead to a state.
use Rattle.std.proofs.Common.{◌≡◌, ◌∙◌, ◌+◌, Bool, true, false, ◌||◌, cond, List, ◌++◌, Option, Some, None, refl, sym, ap, subst, arith}
use Rattle.std.specs.Prelude.{is_some, option_map, option_and_then}
use Rattle.std.specs.FinMap as fin
use Rattle.std.specs.List.{filter_map, list_any}
use Rattle.std.proofs.lemmas.Bool.{false≢true}
use Rattle.std.proofs.lemmas.List.{map-append}
use Rattle.std.proofs.lemmas.List.Elements.{filter_map-append}
use Rattle.std.proofs.lemmas.List.Folds.{list_any-append}
use Rattle.std.proofs.lemmas.List.Sums.{sum_by-append}
use Rattle.std.proofs.lemmas.Option.{none-some, same_Some}
use Rattle.run_follows.specs.tc_base.Names.{Name, main}
use Rattle.run_follows.specs.tc_base.States.{Local, Thread, State}
use Rattle.run_follows.specs.tc_code.Run.{run, run_from}
use Rattle.run_follows.proofs.tc_code.Facts.{run_from-append}
use Rattle.run_follows.specs.run_laws.Alone.{after_steps, taken_from}
use Rattle.run_follows.proofs.run_laws.GoesAlone.{threads_go_alone}
use Rattle.run_follows.specs.run_history.History.{Deed, same}
use Rattle.run_follows.specs.run_history.Locals.{locals_in}
use Rattle.run_follows.specs.run_history.Told.{creates, is_thread_in, is_step_of, steps_in}
use Rattle.run_follows.proofs.run_history.Threads.{number_is}
use Rattle.run_follows.specs.Machine.{Machine}
use Rattle.run_follows.specs.Follow.{AllFollow, move_for, moves_for}
use Rattle.run_follows.proofs.Enabled.{Tells, told}
use Rattle.run_follows.proofs.Plays.{follows_is_run}
use Rattle.run_follows.proofs.of_deeds.Follow.{first_follow}

-- a thread of a history is one of a longer history
or_more : (a x y : Bool) → a || x ≡ true → a || (x || y) ≡ true
or_more true x y e = refl
or_more false true y e = refl
or_more false false y e = absurd (false≢true e)

thread_stays : (older newer : List Deed) (n : Name) → is_thread_in older n ≡ true → is_thread_in (older ++ newer) n ≡ true
thread_stays older newer n there =
    ap (λ ns. same n main || list_any (same n) ns) (filter_map-append creates older newer)
    ∙ ap (λ b. same n main || b) (list_any-append (same n) (filter_map creates older) (filter_map creates newer))
    ∙ or_more (same n main) (list_any (same n) (filter_map creates older)) (list_any (same n) (filter_map creates newer)) there

module _ {B : Type 0} (machine : Machine B) where
  open machine use {ops, model, bound, laws, code}

  pub record Reaches (h : List Deed) : Type 0 where
    pub state : State B
    pub leads : run ops code (moves_for bound h) ≡ Some state
    pub tells : Tells ops model bound laws code state h

  pub reaches : (h : List Deed) → AllFollow ops.buffered bound code h → Reaches h
  reaches h all =
      let p = follows_is_run machine h all in
      record {
        state = p.0;
        leads = p.1;
        tells = subst (Tells ops model bound laws code p.0) p.2 (told ops model bound laws code (moves_for bound h) p.0 p.1);
      }

  -- a thread of the state
  pub record Has (s : State B) (n : Name) (t : Local) : Type 0 where
    pub thread : Thread B
    pub there : fin.get s.threads n ≡ Some thread
    pub local : thread.local ≡ t

  has_by : (s : State B) (n : Name) (t : Local) (o : Option (Thread B)) → fin.get s.threads n ≡ o → option_map (λ (x : Thread B). x.local) o ≡ Some t → Has s n t
  has_by s n t None there e = absurd (none-some t e)
  has_by s n t (Some x) there e = record { thread = x; there = there; local = same_Some x.local t e }

  pub has : (h : List Deed) (r : Reaches h) (n : Name) (t : Local) → fin.get (locals_in code h) n ≡ Some t → Has r.state n t
  has h r n t here = has_by r.state n t (fin.get r.state.threads n) refl (sym (r.tells.locals n) ∙ here)

  thread_by : (s : State B) (n : Name) (o : Option (Thread B)) → fin.get s.threads n ≡ o → is_some o ≡ true → (x : Thread B) × (fin.get s.threads n ≡ Some x)
  thread_by s n None there e = absurd (false≢true e)
  thread_by s n (Some x) there e = (x, there)

  -- a thread that does nothing more keeps its local state
  pub still : (older newer : List Deed) (n : Name) (t : Local) → AllFollow ops.buffered bound code (older ++ newer) → steps_in newer n ≡ 0
      → fin.get (locals_in code older) n ≡ Some t → fin.get (locals_in code (older ++ newer)) n ≡ Some t
  still older newer n t all none here =
      let a = reaches older (first_follow ops.buffered bound code older newer all) in
      let b = reaches (older ++ newer) all in
      let x = has older a n t here in
      let was : is_thread_in older n ≡ true = sym (a.tells.deeds.buffers.threads.there n) ∙ ap is_some x.there in
      let y = thread_by b.state n (fin.get b.state.threads n) refl (b.tells.deeds.buffers.threads.there n ∙ thread_stays older newer n was) in
      let moves : moves_for bound (older ++ newer) ≡ moves_for bound older ++ moves_for bound newer = map-append (move_for bound) older newer in
      let leads : run_from ops code a.state (moves_for bound newer) ≡ Some b.state =
      sym (ap (option_and_then (λ u. run_from ops code u (moves_for bound newer))) a.leads)
      ∙ sym (run_from-append ops code _ (moves_for bound older) (moves_for bound newer)) ∙ ap (run ops code) (sym moves) ∙ b.leads in
      let g = threads_go_alone ops code a.state b.state (moves_for bound newer) n x.thread y.0 (record { moves = moves_for bound older; leads = a.leads }) leads
      x.there y.1 in
      let before = number_is ops code a.state older n a.tells.deeds.buffers.threads x.thread x.there in
      let after = number_is ops code b.state (older ++ newer) n b.tells.deeds.buffers.threads y.0 y.1 in
      let count : steps_in (older ++ newer) n ≡ steps_in older n + steps_in newer n = sum_by-append (λ d. cond (is_step_of n d) 1 0) older newer in
      let zero_steps : g.0 ≡ 0 = omega (arith, g.1, before, after, count, none) in
      let same_local : y.0.local ≡ x.thread.local =
      subst (λ k. y.0.local ≡ (after_steps code k (record { local = x.thread.local; values = taken_from ops code a.state n (moves_for bound newer) })).local)
      zero_steps g.2 in
      b.tells.locals n ∙ ap (option_map (λ (z : Thread B). z.local)) y.1 ∙ ap Some (same_local ∙ x.local)
