-- The log of a history that fails or comes to a deadlock.
use Rattle.std.proofs.Common.{◌≡◌, ◌∙◌, List, Option, Some, None, IsSome, refl, sym, ap, subst}
use Rattle.std.specs.Prelude.{slice_get, IsSomeAnd}
use Rattle.std.proofs.lemmas.Option.{none-some}
use Rattle.tc_record.specs.run_log.Logs.{Log, StoredLog}
use Rattle.tc_record.specs.tc_base.Paths.{Path, ThreadPath, path_under}
use Rattle.tc_record.specs.tc_base.Names.{Name}
use Rattle.tc_record.specs.tc_base.States.{State}
use Rattle.tc_record.specs.tc_base.declared.failing.Failing.{Failing}
use Rattle.tc_record.specs.tc_base.declared.failing.Failing.TheVariants as failing
use Rattle.tc_record.specs.tc_base.declared.moves.Move.{Move}
use Rattle.tc_record.specs.tc_code.Run.{run, EndsAs, IsStuck, Reproduces}
use Rattle.tc_record.proofs.tc_code.Facts.{failed_as_logged}
use Rattle.least_runs.proofs.run_laws.Basics.{some_is}
use Rattle.least_runs.specs.run_history.History.{Deed, history}
use Rattle.least_runs.specs.run_history.Told.{failed_in}
use Rattle.least_runs.specs.run_follows.Machine.{Machine}
use Rattle.least_runs.specs.run_follows.Follow.{AllFollow, IsStuckIn, moves_for}
use Rattle.least_runs.specs.run_follows.Logged.{path_told}
use Rattle.least_runs.proofs.run_follows.Follows.{all_told}
use Rattle.least_runs.proofs.run_follows.Plays.{follows_is_run}
use Rattle.least_runs.proofs.run_follows.Reproduced.{reproduces_as_logged}
use Rattle.least_runs.proofs.run_follows.Stuck.{stuck_is_told}
use Rattle.least_runs.specs.Least.{IsLeast}
use Rattle.tc_record.specs.Logged.{IsLogOf}
use Rattle.tc_record.proofs.OneLog.{some_log}
use Rattle.tc_record.proofs.Paths.{reproduced}
use Rattle.tc_record.proofs.Reached.{has_threads}
use Rattle.tc_record.specs.path_laws.Setting.{Setting}
use Rattle.tc_record.specs.path_laws.history.Along.{path_thread}
use Rattle.normal_logs.specs.Normal.{IsNormal, IsNormalDeadlock}
use Rattle.normal_logs.proofs.Reproduced.{fit_together}
use Rattle.normal_logs.proofs.Least.{used}
use Rattle.normal_logs.proofs.Deadlock.{caused}

-- a state without a failed thread isn't the end of a failure's log
not_failed : {B : Type 0} (s : State B) → s.failed ≡ None → (o : Option ThreadPath) → IsSomeAnd o (λ t. s.failed ≡ Some t.name) → ⊥
not_failed s none None e = absurd e
not_failed s none (Some t) e = none-some t.name (sym none ∙ e)

module _ {B : Type 0} (machine : Machine B) where
  open machine use {ops, model, bound, code}

  deadlock_by : (s : State B) (f : Failing) (ts : List ThreadPath) → s.failed ≡ None → EndsAs ops code f ts s → f ≡ failing.Deadlock
  deadlock_by s (failing.Thread k) ts none e = absurd (not_failed s none (slice_get ts k) e)
  deadlock_by s failing.Deadlock ts none e = refl

  -- moves with this history reproduce a log of this kind
  pub record HasLog (g : List Deed) (kind : Log → Type 0) : Type 0 where
    pub log : Log
    pub is : kind log
    pub under : log.model ≡ model
    pub moves : List Move
    pub again : Reproduces ops code log moves
    pub told : history ops code moves ≡ g

  -- the paths of the log are those of the history
  pub path_is : (g : List Deed) (kind : Log → Type 0) (r : HasLog g kind) (n : Name) (p : Path) → path_under n r.log.threads ≡ Some p
      → path_told code g n ≡ Some p
  path_is g kind r n p is = ap (λ h. path_told code h n) (sym r.told) ∙ (reproduces_as_logged machine r.log r.moves r.again).paths n ∙ is

  module _ (g : List Deed) (all : AllFollow ops.buffered bound code g) where
    abbrev moves : List Move
    moves = moves_for bound g

    abbrev reached : (s : State B) × (run ops code (moves_for bound g) ≡ Some s) × (history ops code (moves_for bound g) ≡ g)
    reached = follows_is_run machine g all

    abbrev stored : (x : StoredLog) × IsLogOf model reached.0 x
    stored = some_log model reached.0 (has_threads ops code reached.0 (record { moves = moves; leads = reached.1 }))

    abbrev log : Log
    log = stored.0.log

    abbrev setting : Setting B
    setting = record { machine = machine; log = log; log_is = stored.1.is_log }

    -- the log of a least run
    module _ (f : Name) (fails : failed_in g ≡ Some f) (least : IsLeast f g) where
      failed_there : failed_in (history ops code moves) ≡ Some f
      failed_there = ap failed_in reached.2 ∙ fails

      state_failed : reached.0.failed ≡ Some f
      state_failed = (all_told machine moves reached.0 reached.1).tells.failure ∙ failed_there

      again : Reproduces ops code log moves
      again = reproduced ops code reached.0 model stored.0 moves reached.1 (λ none. absurd (none-some f (sym none ∙ state_failed))) stored.1

      pub failure_log : HasLog g (IsNormal code)
      failure_log = record {
        log = log;
        is = record {
          paths = fit_together setting moves again;
          fails = subst IsSome (sym stored.1.failing) (some_is reached.0.failed f state_failed);
          used = λ j w there other. used setting moves again f failed_there (subst (IsLeast f) (sym reached.2) least) (path_thread j w there) other w.places refl;
        };
        under = stored.1.model;
        moves = moves;
        again = again;
        told = reached.2;
      }

    -- the log of a deadlock
    pub deadlock_log : IsStuckIn ops.buffered bound code g → HasLog g (IsNormalDeadlock code)
    deadlock_log stuck =
        let there : IsStuck ops code reached.0 =
        (stuck_is_told machine moves reached.0 reached.1).1 (subst (IsStuckIn ops.buffered bound code) (sym reached.2) stuck) in
        let anew = reproduced ops code reached.0 model stored.0 moves reached.1 (λ none. there) stored.1 in
        let none = failed_as_logged ops code log anew.state anew.ends ∙ stored.1.failing ∙ there.unfailed in
        let dead = deadlock_by anew.state log.failing log.threads none anew.ends in
        record {
          log = log;
          is = record { paths = fit_together setting moves anew; ends = dead; caused = caused setting moves anew dead };
          under = stored.1.model;
          moves = moves;
          again = anew;
          told = reached.2;
        }
