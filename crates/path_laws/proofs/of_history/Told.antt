-- A history along paths is that of a run on them.
use Rattle.std.proofs.Common.{◌≡◌, ◌∙◌, true, List, [], ◌++◌, Option, Some, None, refl, sym, ap, subst, append-nil}
use Rattle.std.specs.Prelude.{option_map, option_and_then}
use Rattle.std.specs.FinMap as fin
use Rattle.std.proofs.lemmas.List.{map-append}
use Rattle.std.proofs.lemmas.Option.{none-some, same_Some}
use Rattle.path_walk.specs.run_log.Logs.{Log}
use Rattle.path_walk.specs.tc_base.Names.{Name}
use Rattle.path_walk.specs.tc_base.States.{Local, Thread, State}
use Rattle.path_walk.specs.tc_base.declared.moves.Move.{Move}
use Rattle.path_walk.specs.tc_code.Run.{run, run_from, IsReached, Reproduces}
use Rattle.path_walk.specs.tc_code.Step.{opening}
use Rattle.path_walk.proofs.tc_code.Facts.{run_from-append}
use Rattle.run_follows.proofs.run_laws.Basics.{some_value}
use Rattle.run_follows.specs.run_history.History.{Deed, history}
use Rattle.run_follows.specs.run_history.Locals.{locals_in}
use Rattle.run_follows.specs.run_history.Told.{is_thread_in, steps_in, failed_in}
use Rattle.run_follows.proofs.run_history.Threads.{number_is}
use Rattle.run_follows.specs.Machine.{Machine}
use Rattle.run_follows.specs.Follow.{move_for, moves_for}
use Rattle.run_follows.proofs.Enabled.{Tells}
use Rattle.run_follows.proofs.Follows.{AllTold, all_told}
use Rattle.run_follows.proofs.Plays.{follows_is_run}
use Rattle.path_laws.specs.Prefixes.{IsOnPath, AreOnPaths}
use Rattle.path_laws.proofs.Prefixes.{on_before_moves, beginnings_on}
use Rattle.run_follows.proofs.of_deeds.Follow.{first_follow}
use Rattle.path_laws.specs.history.Along.{AreOnPathsIn, IsAlongPaths, HistoryAlong}
use Rattle.path_laws.specs.Setting.{Setting}

module _ {B : Type 0} (machine : Machine B) (log : Log) where
  open machine use {ops, model, bound, laws, code}

  abbrev local_of : Option (Thread B) → Option Local
  local_of o = option_map (λ (t : Thread B). t.local) o

  -- threads of a state are on their paths exactly if those of its history are
  module _ (s : State B) (h : List Deed) (a : Tells ops model bound laws code s h) where
    pub on_told : AreOnPaths log s → AreOnPathsIn code log h
    on_told on n l at = by (fin.get s.threads n) refl
      where
        by : (o : Option (Thread B)) → fin.get s.threads n ≡ o → IsOnPath log (failed_in h) n l
        by None none = absurd (none-some l (sym (a.locals n ∙ ap local_of none) ∙ at))
        by (Some t) here =
            subst (IsOnPath log (failed_in h) n) (same_Some t.local l (sym (a.locals n ∙ ap local_of here) ∙ at))
            (subst (λ o. IsOnPath log o n t.local) a.failure (on n t here))

    pub on_there : AreOnPathsIn code log h → AreOnPaths log s
    on_there on n t here = subst (λ o. IsOnPath log o n t.local) (sym a.failure) (on n t.local (a.locals n ∙ ap local_of here))

  pub run_is_along : (moves : List Move) (s : State B) → run ops code moves ≡ Some s → AreOnPaths log s
      → IsAlongPaths machine log (history ops code moves)
  run_is_along moves s leads on =
      let a = all_told machine moves s leads in
      record { follow = a.follow; on = on_told s (history ops code moves) a.tells on }

  -- the run of a history
  pub record RunOf (h : List Deed) : Type 0 where
    pub moves : List Move
    pub state : State B
    pub leads : run ops code moves ≡ Some state
    pub is : history ops code moves ≡ h
    pub told : AllTold machine state h
    pub on : AreOnPaths log state

  pub run_of : (h : List Deed) → IsAlongPaths machine log h → RunOf h
  run_of h along =
      let p = follows_is_run machine h along.follow in
      let a = subst (AllTold machine p.0) p.2 (all_told machine (moves_for bound h) p.0 p.1) in
      record { moves = moves_for bound h; state = p.0; leads = p.1; is = p.2; told = a; on = on_there p.0 h a.tells along.on }

  pub along_is_run : (h : List Deed) → IsAlongPaths machine log h
      → (s : State B) × (run ops code (moves_for bound h) ≡ Some s) × (history ops code (moves_for bound h) ≡ h) × AreOnPaths log s
  along_is_run h along =
      let p = follows_is_run machine h along.follow in
      let a = subst (AllTold machine p.0) p.2 (all_told machine (moves_for bound h) p.0 p.1) in
      (p.0, p.1, p.2, on_there p.0 h a.tells along.on)

  module _ (h : List Deed) (r : RunOf h) where
    pub reached : IsReached ops code r.state
    reached = record { moves = r.moves; leads = r.leads }

    -- each thread of the history is in the state
    pub thread_of : (n : Name) → is_thread_in h n ≡ true → (t : Thread B) × (fin.get r.state.threads n ≡ Some t)
    thread_of n there = some_value (fin.get r.state.threads n) (r.told.tells.deeds.buffers.threads.there n ∙ there)

    pub steps_of : (n : Name) (t : Thread B) → fin.get r.state.threads n ≡ Some t → t.local.steps ≡ steps_in h n
    steps_of n t here = number_is ops code r.state h n r.told.tells.deeds.buffers.threads t here

    pub local_is : (n : Name) (t : Thread B) → fin.get r.state.threads n ≡ Some t → fin.get (locals_in code h) n ≡ Some t.local
    local_is n t here = r.told.tells.locals n ∙ ap local_of here

  -- the first deeds
  pub first_along : (first later : List Deed) → IsAlongPaths machine log (first ++ later) → IsAlongPaths machine log first
  first_along first later along =
      let ms = moves_for bound first in
      let ks = moves_for bound later in
      let all = along_is_run (first ++ later) along in
      let follow = first_follow ops.buffered bound code first later along.follow in
      let front = follows_is_run machine first follow in
      let rest : run_from ops code front.0 ks ≡ Some all.0 =
      sym (ap (option_and_then (λ u. run_from ops code u ks)) front.1)
      ∙ sym (run_from-append ops code (opening ops code) ms ks)
      ∙ ap (run ops code) (sym (map-append (move_for bound) first later))
      ∙ all.1 in
      let a = subst (AllTold machine front.0) front.2 (all_told machine ms front.0 front.1) in
      record {
        follow = follow;
        on = on_told front.0 first a.tells
            (on_before_moves ops code log front.0 all.0 ks (record { moves = ms; leads = front.1 }) rest all.3);
      }

  -- the run of moves that reproduce a log
  abbrev pub reproduced_run : (moves : List Move) → Reproduces ops code log moves → RunOf (history ops code moves)
  reproduced_run moves r = record {
    moves = moves;
    state = r.state;
    leads = r.leads;
    is = refl;
    told = all_told machine moves r.state r.leads;
    on = beginnings_on ops code log moves [] r.state (subst (Reproduces ops code log) (sym (append-nil moves)) r) r.leads;
  }

  pub reproduced_along : (moves : List Move) → Reproduces ops code log moves → IsAlongPaths machine log (history ops code moves)
  reproduced_along moves r = run_is_along moves r.state r.leads (reproduced_run moves r).on

module _ {B : Type 0} (setting : Setting B) (history : HistoryAlong setting) where
  open setting use {machine, log}
  open history use {deeds as h, fits, along}

  -- the run of a history along the paths
  abbrev pub its_run : RunOf machine log h
  its_run = run_of machine log h along

  -- such a history, up to one of its deeds
  abbrev pub up_to : (older newer : List Deed) → h ≡ older ++ newer → HistoryAlong setting
  up_to older newer at =
      record { deeds = older; fits = fits; along = first_along machine log older newer (subst (IsAlongPaths machine log) at along) }
