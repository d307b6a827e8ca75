-- If no short run fails, no run fails.
use Rattle.std.proofs.Common.{◌≡◌, ◌∙◌, ℕ, zero, suc, ◌+◌, ◌<◌, ◌≤◌, ◌==◌, true, List, ◌∷◌, ◌++◌, length}
use Rattle.std.proofs.Common.{Option, Some, None, refl, sym, ap, subst, arith, true≢false}
use Rattle.std.specs.Prelude.{option_map}
use Rattle.std.specs.FinMap as fin
use Rattle.std.proofs.lemmas.Bool.{and_parts, eqb-true, false_from_ne_true}
use Rattle.std.proofs.lemmas.List.{length-append, length-map, map-append}
use Rattle.std.proofs.lemmas.Option.{none-some, same_Some}
use Rattle.pure_turns.specs.tc_base.Names.{Name}
use Rattle.pure_turns.specs.tc_base.States.{Thread, State}
use Rattle.pure_turns.specs.tc_base.declared.moves.Move.{Move}
use Rattle.pure_turns.specs.tc_code.Run.{run}
use Rattle.least_runs.specs.run_history.History.{Deed, Did, Drained, history}
use Rattle.least_runs.specs.run_history.Told.{steps_in, failed_in}
use Rattle.least_runs.proofs.run_history.Grows.{one_deed_a_move}
use Rattle.least_runs.proofs.run_follows.Plays.{follows_is_run}
use Rattle.least_runs.proofs.run_follows.Stuck.{stuck_is_told}
use Rattle.least_runs.specs.run_follows.Machine.{Machine}
use Rattle.least_runs.specs.run_follows.Follow.{IsStuckIn, AllFollow, move_for, moves_for}
use Rattle.least_runs.specs.run_follows.Logged.{path_by}
use Rattle.least_runs.proofs.run_follows.Enabled.{Tells, told}
use Rattle.least_runs.proofs.run_follows.Follows.{all_follow}
use Rattle.least_runs.specs.Unused.{is_unused, comes_out}
use Rattle.least_runs.specs.Least.{IsPart}
use Rattle.least_runs.proofs.Reached.{reaches}
use Rattle.least_runs.proofs.Used.{unused_is}
use Rattle.least_runs.proofs.Unseen.{failed_still}
use Rattle.least_runs.proofs.Follows.{left_follows}
use Rattle.least_runs.proofs.Part.{is_part}
use Rattle.pure_turns.specs.Live.{Liveness, IsClosed}
use Rattle.pure_turns.specs.Turn.{HasOutcomesUpTo as HasInState, IsSameBut, without_steps_of}
use Rattle.pure_turns.proofs.Out.{comes_out as turn_comes_out, stays_stuck}
use Rattle.pure_turns.proofs.Needs.{up_to_same}
use Rattle.least_runs.proofs.run_follows.of_deeds.Follow.{first_follow}
use Rattle.short_runs.specs.Turns.{IsPureTurnIn, HasNoPureTurnIn}
use Rattle.short_runs.proofs.Turns.{turn_of_moves}
use Rattle.short_runs.specs.Short.{HasOutcomesUpTo, IsShort}

module _ {B : Type 0} (machine : Machine B) (live : Liveness) (closed : IsClosed (machine.code) live) where
  open machine use {ops, model, bound, laws, code, lawful}

  -- a bound on outcomes in a state holds in its history
  up_to_told : (k : ℕ) (s : State B) (h : List Deed) → Tells ops model bound laws code s h → HasInState k s → HasOutcomesUpTo code k h
  up_to_told k s h tells few n p is = by (fin.get s.threads n) refl (sym (ap (option_map path_by) (tells.locals n)) ∙ is)
    where
      by : (o : Option (Thread B)) → fin.get s.threads n ≡ o → option_map path_by (option_map (λ (x : Thread B). x.local) o) ≡ Some p → length p.outcomes ≤ k
      by None there e = absurd (none-some p e)
      by (Some x) there e = subst (λ q. length q.outcomes ≤ k) (same_Some (path_by x.local) p e) (few n x there)

  -- a bound on outcomes in a history holds in its state
  up_to_state : (k : ℕ) (s : State B) (h : List Deed) → Tells ops model bound laws code s h → HasOutcomesUpTo code k h → HasInState k s
  up_to_state k s h tells few n t there =
      few n (path_by t.local) (ap (option_map path_by) (tells.locals n ∙ ap (option_map (λ (x : Thread B). x.local)) there))

  -- a history that fails, with fewer than `m` deeds
  record Fails (f : Name) (P : List Deed → Type 0) (m : ℕ) : Type 0 where
    deeds : List Deed
    run : AllFollow ops.buffered bound code deeds
    fails : failed_in deeds ≡ Some f
    is : P deeds
    few : length deeds < m

  -- a part of a history has at most as many outcomes
  part_up_to : (k : ℕ) (g h : List Deed) → IsPart code g h → HasOutcomesUpTo code k h → HasOutcomesUpTo code k g
  part_up_to k g h part few n p there =
      let b = part n p there in
      let more = few n b.path b.there in
      omega (arith, more, ap length b.outcomes, length-append p.outcomes b.later)

  -- without a turn a history has at most as many outcomes
  turn_up_to : (k : ℕ) (n : Name) (v w : State B) (g h : List Deed) → Tells ops model bound laws code v g → Tells ops model bound laws code w h
      → IsSameBut live n v w → HasOutcomesUpTo code k h → HasOutcomesUpTo code k g
  turn_up_to k n v w g h left whole same few =
      up_to_told k v g left (up_to_same ops code lawful live closed k n v w same (up_to_state k w h whole few))

  -- the run without a pure turn, and the states to which both lead
  record TurnOut (n : Name) (h : List Deed) : Type 0 where
    moves : List Move
    left : State B
    whole : State B
    leads : run ops code moves ≡ Some left
    leads_whole : run ops code (moves_for bound h) ≡ Some whole
    again : history ops code (moves_for bound h) ≡ h
    run : AllFollow ops.buffered bound code (history ops code moves)
    tells : Tells ops model bound laws code left (history ops code moves)
    tells_whole : Tells ops model bound laws code whole h
    same : IsSameBut live n left whole
    few : length (history ops code moves) < length h

  turn_out : (h : List Deed) → AllFollow ops.buffered bound code h → (older turn newer : List Deed) (n : Name) → h ≡ older ++ turn ++ newer
      → IsPureTurnIn code live n older turn → TurnOut n h
  turn_out h all first round rest n is turned =
      let r = follows_is_run machine h all in
      let both = first_follow ops.buffered bound code (first ++ round) rest (subst (AllFollow ops.buffered bound code) is all) in
      let a = reaches machine first (first_follow ops.buffered bound code first round both) in
      let older = moves_for bound first in
      let turn = moves_for bound round in
      let newer = moves_for bound rest in
      let moves : moves_for bound h ≡ older ++ turn ++ newer =
      ap (moves_for bound) is ∙ map-append (move_for bound) (first ++ round) rest ∙ ap (λ ms. ms ++ newer) (map-append (move_for bound) first round) in
      let pure = turn_of_moves machine live n first round both a turned in
      let out = turn_comes_out ops code lawful live closed n older turn newer a.state r.0 a.leads pure (ap (run ops code) (sym moves) ∙ r.1) in
      let shorter = older ++ without_steps_of n turn ++ newer in
      record {
        moves = shorter;
        left = out.state;
        whole = r.0;
        leads = out.leads;
        leads_whole = r.1;
        again = r.2;
        run = all_follow machine shorter out.state out.leads;
        tells = told ops model bound laws code shorter out.state out.leads;
        tells_whole = subst (Tells ops model bound laws code r.0) r.2 (told ops model bound laws code (moves_for bound h) r.0 r.1);
        same = out.same;
        few = omega (
          arith,
          one_deed_a_move ops code shorter out.state out.leads,
          out.fewer,
          ap length moves,
          length-map h (move_for bound),
          length-append (older ++ turn) newer,
          length-append older turn,
          length-append (older ++ without_steps_of n turn) newer,
          length-append older (without_steps_of n turn),
        );
      }

  -- removing steps keeps `P`
  module _ (f : Name) (P : List Deed → Type 0) (parts : (g h : List Deed) → IsPart code g h → P h → P g)
      (turns : (n : Name) (v w : State B) (g h : List Deed) → Tells ops model bound laws code v g → Tells ops model bound laws code w h
      → IsSameBut live n v w → P h → P g) (h : List Deed) (all : AllFollow ops.buffered bound code h) (fails : failed_in h ≡ Some f) (p : P h) where
    -- without a step that nothing needs the history is shorter
    without_step : (older newer : List Deed) (d : Deed) → h ≡ older ++ d ∷ newer → comes_out d newer ≡ true → Fails f P (length h)
    without_step older newer (Drained n j c v) is out = absurd (true≢false (sym out))
    without_step older newer (Did n j r v o) is out =
        let both = and_parts (steps_in newer n == 0) (is_unused r n o newer) out in
        let last = eqb-true (steps_in newer n) 0 both.0 in
        let used = unused_is n r o newer both.1 in
        let whole = subst (AllFollow ops.buffered bound code) is all in
        let part = is_part machine older newer n j r v o whole last used in
        record {
          deeds = older ++ newer;
          run = left_follows machine older newer n j r v o whole last used;
          fails = sym (failed_still n j v o newer older newer r used) ∙ sym (ap failed_in is) ∙ fails;
          is = parts (older ++ newer) h (subst (IsPart code (older ++ newer)) (sym is) part) p;
          few = omega (arith, ap length is, length-append older (Did n j r v o ∷ newer), length-append older newer);
        }

    -- without a pure turn the history is shorter
    without_turn : (older turn newer : List Deed) (n : Name) → h ≡ older ++ turn ++ newer → IsPureTurnIn code live n older turn → Fails f P (length h)
    without_turn older turn newer n is turned =
        let x = turn_out h all older turn newer n is turned in
        record {
          deeds = history ops code x.moves;
          run = x.run;
          fails = sym x.tells.failure ∙ ap (λ (y : State B). y.failed) x.same.shared ∙ x.tells_whole.failure ∙ fails;
          is = turns n x.left x.whole (history ops code x.moves) h x.tells x.tells_whole x.same p;
          few = x.few;
        }

  module _ (f : Name) (P : List Deed → Type 0) (parts : (g h : List Deed) → IsPart code g h → P h → P g)
      (turns : (n : Name) (v w : State B) (g h : List Deed) → Tells ops model bound laws code v g → Tells ops model bound laws code w h
      → IsSameBut live n v w → P h → P g) (none : (g : List Deed) → IsShort ops.buffered bound code live f g → P g → ⊥) where
    none_below : (m : ℕ) (h : List Deed) → length h < m → AllFollow ops.buffered bound code h → failed_in h ≡ Some f → P h → ⊥
    none_below zero h short all fails p = omega (arith, short)
    none_below (suc m) h short all fails p =
        let again : Fails f P (length h) → ⊥ = λ x.
        let less : length x.deeds < m = omega (arith, short, x.few) in none_below m x.deeds less x.run x.fails x.is in
        none h (record {
          run = all;
          fails = fails;
          least = λ older newer d is apart. false_from_ne_true _ (λ out. again (without_step f P parts turns h all fails p older newer d is out));
          turnless = λ older turn newer n is pure. again (without_turn f P parts turns h all fails p older turn newer n is pure);
        }) p

  pub none_within : (f : Name) (k : ℕ) → ((g : List Deed) → IsShort ops.buffered bound code live f g → HasOutcomesUpTo code k g → ⊥) → (h : List Deed)
      → AllFollow ops.buffered bound code h → failed_in h ≡ Some f → HasOutcomesUpTo code k h → ⊥
  none_within f k none h = none_below f (HasOutcomesUpTo code k) (part_up_to k) (turn_up_to k) none (length h + 1) h (omega arith)

  pub none_at_all : (f : Name) → ((g : List Deed) → IsShort ops.buffered bound code live f g → ⊥) → (h : List Deed)
      → AllFollow ops.buffered bound code h → failed_in h ≡ Some f → ⊥
  none_at_all f none h all fails =
      none_below f (λ g. Unit {0}) (λ g i part u. tt) (λ n v w g i left whole same u. tt) (λ g short u. none g short) (length h + 1) h (omega arith) all fails tt

  -- the same for deadlocks, from which only turns are removed
  module _ (P : List Deed → Type 0)
      (turns : (n : Name) (v w : State B) (g h : List Deed) → Tells ops model bound laws code v g → Tells ops model bound laws code w h
      → IsSameBut live n v w → P h → P g)
      (none : (g : List Deed) → AllFollow ops.buffered bound code g → IsStuckIn ops.buffered bound code g → HasNoPureTurnIn code live g → P g → ⊥) where
    no_stuck_below : (m : ℕ) (h : List Deed) → length h < m → AllFollow ops.buffered bound code h → IsStuckIn ops.buffered bound code h → P h → ⊥
    no_stuck_below zero h short all stuck p = omega (arith, short)
    no_stuck_below (suc m) h short all stuck p =
        none h all stuck
        (λ older turn newer n is turned.
        let x = turn_out h all older turn newer n is turned in
        let less : length (history ops code x.moves) < m = omega (arith, short, x.few) in
        let whole = (stuck_is_told machine (moves_for bound h) x.whole x.leads_whole).1
        (subst (IsStuckIn ops.buffered bound code) (sym x.again) stuck) in
        let left = stays_stuck ops code live closed n x.left x.whole (record { moves = x.moves; leads = x.leads }) x.same whole in
        no_stuck_below m (history ops code x.moves) less x.run
        ((stuck_is_told machine x.moves x.left x.leads).0 left)
        (turns n x.left x.whole (history ops code x.moves) h x.tells x.tells_whole x.same p))
        p

  pub no_stuck_within : (k : ℕ)
      → ((g : List Deed) → AllFollow ops.buffered bound code g → IsStuckIn ops.buffered bound code g → HasNoPureTurnIn code live g → HasOutcomesUpTo code k g → ⊥)
      → (h : List Deed) → AllFollow ops.buffered bound code h → IsStuckIn ops.buffered bound code h → HasOutcomesUpTo code k h → ⊥
  no_stuck_within k none h = no_stuck_below (HasOutcomesUpTo code k) (turn_up_to k) none (length h + 1) h (omega arith)

  pub no_stuck : ((g : List Deed) → AllFollow ops.buffered bound code g → IsStuckIn ops.buffered bound code g → HasNoPureTurnIn code live g → ⊥)
      → (h : List Deed) → AllFollow ops.buffered bound code h → IsStuckIn ops.buffered bound code h → ⊥
  no_stuck none h all stuck =
      no_stuck_below (λ g. Unit {0}) (λ n v w g i left whole same u. tt) (λ g follow is pure u. none g follow is pure) (length h + 1) h (omega arith) all stuck tt
