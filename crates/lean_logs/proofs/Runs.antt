-- Logs without needless paths suffice to find every failure and every deadlock.
use Rattle.std.proofs.Common.{◌≡◌, ◌∙◌, ℕ, true, List, length, Some, IsSome, refl, sym}
use Rattle.std.specs.FinMap as fin
use Rattle.std.proofs.lemmas.Bool.{leb-true, le-leb}
use Rattle.tc_record.specs.tc_base.Paths.{Path}
use Rattle.tc_record.specs.tc_base.Names.{Name}
use Rattle.tc_record.specs.tc_base.States.{Thread, State}
use Rattle.tc_record.specs.tc_base.declared.moves.Move.{Move}
use Rattle.tc_record.specs.tc_code.Run.{run, IsStuck}
use Rattle.least_runs.proofs.run_laws.Basics.{some_value}
use Rattle.least_runs.specs.run_history.History.{Deed, history}
use Rattle.least_runs.specs.run_follows.Machine.{Machine}
use Rattle.least_runs.specs.run_follows.Follow.{AllFollow, IsStuckIn}
use Rattle.least_runs.specs.run_follows.Logged.{path_told}
use Rattle.least_runs.proofs.run_follows.Follows.{AllTold, all_told}
use Rattle.least_runs.proofs.run_follows.Stuck.{stuck_is_told}
use Rattle.pure_turns.specs.Live.{Liveness, IsClosed}
use Rattle.short_runs.specs.Short.{HasOutcomesUpTo, IsShort}
use Rattle.short_runs.specs.Turns.{HasNoPureTurnIn}
use Rattle.short_runs.proofs.Short.{none_within, none_at_all, no_stuck, no_stuck_within}
use Rattle.normal_logs.specs.Normal.{IsNormal, IsNormalDeadlock}
use Rattle.normal_logs.specs.Within.{Allowed, at_most, ComesTo, ReproducesSome}
use Rattle.normal_logs.proofs.Histories.{path_is, failure_log, deadlock_log}
use Rattle.normal_logs.proofs.Logs.{told_within}
use Rattle.log_walk.specs.declared.bounds.Kind.TheVariants.{Failure, Deadlock}
use Rattle.walked_logs.proofs.Failures.{failure_made_up}
use Rattle.walked_logs.proofs.Deadlocks.{deadlock_made_up}
use Rattle.lean_logs.specs.Lean.{any_outcomes, IsLean, IsLeanDeadlock}
use Rattle.lean_logs.proofs.Logs.{none_needless}

module _ {B : Type 0} (m : Machine B) where
  -- each path of a history is allowed
  abbrev AreAllowedIn : Allowed → List Deed → Type 0
  AreAllowedIn allowed g = (n : Name) (p : Path) → path_told m.code g n ≡ Some p → allowed n p.outcomes ≡ true

  -- the log of a short history
  of_failure : (live : Liveness) (allowed : Allowed) (f : Name) (g : List Deed) → IsShort m.ops.buffered m.bound m.code live f g
      → AreAllowedIn allowed g → ReproducesSome m.ops m.code allowed m.model (IsLean m.code live)
  of_failure live allowed f g short within =
      let r = failure_log m g short.run f short.fails short.least in
      let made = failure_made_up m.code r.log r.is in
      record {
        log = r.log;
        is = record {
          walked = record { fails = r.is.fails; makes_up = made };
          needed = none_needless m g (IsNormal m.code) r r.is.paths live short.turnless Failure made;
        };
        under = r.under;
        within = λ n p is. within n p (path_is m g (IsNormal m.code) r n p is);
        moves = r.moves;
        again = r.again;
      }

  -- the log of a history without pure turns that comes to a deadlock
  of_deadlock : (live : Liveness) (allowed : Allowed) (g : List Deed) → AllFollow m.ops.buffered m.bound m.code g
      → IsStuckIn m.ops.buffered m.bound m.code g → HasNoPureTurnIn m.code live g → AreAllowedIn allowed g
      → ReproducesSome m.ops m.code allowed m.model (IsLeanDeadlock m.code live)
  of_deadlock live allowed g follow stuck turnless within =
      let r = deadlock_log m g follow stuck in
      let made = deadlock_made_up m.code r.log m.lawful r.is in
      record {
        log = r.log;
        is = record {
          walked = record { ends = r.is.ends; makes_up = made };
          needed = none_needless m g (IsNormalDeadlock m.code) r r.is.paths live turnless Deadlock made;
        };
        under = r.under;
        within = λ n p is. within n p (path_is m g (IsNormalDeadlock m.code) r n p is);
        moves = r.moves;
        again = r.again;
      }

  -- a bound on the outcomes in a state holds in its history
  up_to : (most : ℕ) (moves : List Move) (s : State B) → run m.ops m.code moves ≡ Some s
      → ((n : Name) (t : Thread B) → fin.get s.threads n ≡ Some t → at_most most n t.local.outcomes ≡ true)
      → HasOutcomesUpTo m.code most (history m.ops m.code moves)
  up_to most moves s leads within n p is = leb-true (length p.outcomes) most (told_within m (at_most most) moves s leads within n p is)

  few_allowed : (most : ℕ) (g : List Deed) → HasOutcomesUpTo m.code most g → AreAllowedIn (at_most most) g
  few_allowed most g few n p is = le-leb (length p.outcomes) most (few n p is)

  pub fails_whole : (live : Liveness) → IsClosed m.code live → (ReproducesSome m.ops m.code any_outcomes m.model (IsLean m.code live) → ⊥)
      → ComesTo m.ops m.code any_outcomes (λ s. IsSome s.failed) → ⊥
  fails_whole live closed none c =
      let told : AllTold m c.state (history m.ops m.code c.moves) = all_told m c.moves c.state c.leads in
      let f = some_value c.state.failed c.is in
      none_at_all m live closed f.0 (λ g short. none (of_failure live any_outcomes f.0 g short (λ n p is. refl)))
      (history m.ops m.code c.moves) told.follow (sym told.tells.failure ∙ f.1)

  pub fails_within : (live : Liveness) (most : ℕ) → IsClosed m.code live
      → (ReproducesSome m.ops m.code (at_most most) m.model (IsLean m.code live) → ⊥)
      → ComesTo m.ops m.code (at_most most) (λ s. IsSome s.failed) → ⊥
  fails_within live most closed none c =
      let told : AllTold m c.state (history m.ops m.code c.moves) = all_told m c.moves c.state c.leads in
      let f = some_value c.state.failed c.is in
      none_within m live closed f.0 most (λ g short few. none (of_failure live (at_most most) f.0 g short (few_allowed most g few)))
      (history m.ops m.code c.moves) told.follow (sym told.tells.failure ∙ f.1) (up_to most c.moves c.state c.leads c.within)

  pub stuck_whole : (live : Liveness) → IsClosed m.code live → (ReproducesSome m.ops m.code any_outcomes m.model (IsLeanDeadlock m.code live) → ⊥)
      → ComesTo m.ops m.code any_outcomes (IsStuck m.ops m.code) → ⊥
  stuck_whole live closed none c =
      let told : AllTold m c.state (history m.ops m.code c.moves) = all_told m c.moves c.state c.leads in
      no_stuck m live closed (λ g follow stuck turnless. none (of_deadlock live any_outcomes g follow stuck turnless (λ n p is. refl)))
      (history m.ops m.code c.moves) told.follow ((stuck_is_told m c.moves c.state c.leads).0 c.is)

  pub stuck_within : (live : Liveness) (most : ℕ) → IsClosed m.code live
      → (ReproducesSome m.ops m.code (at_most most) m.model (IsLeanDeadlock m.code live) → ⊥)
      → ComesTo m.ops m.code (at_most most) (IsStuck m.ops m.code) → ⊥
  stuck_within live most closed none c =
      let told : AllTold m c.state (history m.ops m.code c.moves) = all_told m c.moves c.state c.leads in
      no_stuck_within m live closed most
      (λ g follow stuck turnless few. none (of_deadlock live (at_most most) g follow stuck turnless (few_allowed most g few)))
      (history m.ops m.code c.moves) told.follow ((stuck_is_told m c.moves c.state c.leads).0 c.is) (up_to most c.moves c.state c.leads c.within)
