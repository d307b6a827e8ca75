-- Normal logs, which suffice to find every failure and every deadlock.
-- More could be left out: paths with the wrong outcome of a test of constants, and rounds of a loop
-- that change nothing.
use Rattle.std.specs.Prelude.{◌≡◌, ◌⊎◌, ℕ, true, false, [], Some, IsSome}
use Rattle.tc_record.specs.run_log.Logs.{Log, failing_of}
use Rattle.tc_record.specs.tc_base.Names.{child}
use Rattle.tc_record.specs.tc_base.declared.failing.Failing.TheVariants.{Deadlock}
use Rattle.tc_record.specs.tc_code.Code.{Code}
use Rattle.tc_record.specs.run_log.Logs.{is_log}
use Rattle.tc_record.specs.path_walk.Fits.{fails_in, Fits}
use Rattle.tc_record.specs.path_walk.Paths.{Walk, paths_of}
use Rattle.tc_record.specs.path_walk.declared.event.Blocked.{Blocked}
use Rattle.tc_record.specs.path_walk.declared.event.Blocked.TheVariants.{Lock, Wake, Join}
use Rattle.tc_record.specs.path_walk.declared.event.EventKind.TheVariants.{Exit}
use Rattle.tc_record.specs.path_laws.history.Along.{IsThread}
use Rattle.normal_logs.specs.Ends.{EndsWith, HoldsAtEnd, IsJoined, EndsUsed, IsHeldAtEnd}
use Rattle.normal_logs.specs.Ends.{NeverExits}

module _ (code : Code) (log : Log) where
  -- the paths fit the program and each other
  pub record FitTogether : Type 0 where
    pub is_log : is_log log ≡ true
    pub fits : Fits code log
    -- no path alone rules out every run, and in a deadlock some thread is blocked
    pub possible : (paths_of code log).dead ≡ false
    -- a joined thread has exited, so it isn't the one that fails
    pub joined : (j : ℕ) (w : Walk) → IsThread code log j w → IsJoined code log w.name
        → EndsWith w Exit
    -- no two threads hold the same mutex at the end
    pub apart : (i j m : ℕ) (v w : Walk) → IsThread code log i v → IsThread code log j w
        → HoldsAtEnd v m → HoldsAtEnd w m → v.name ≡ w.name

  -- a normal log of a failure: each other thread does nothing, or its last step may be needed
  pub record IsNormal : Type 0 where
    pub paths : FitTogether
    pub fails : IsSome (failing_of log)
    pub used : (j : ℕ) (w : Walk) → IsThread code log j w → fails_in log w.name ≡ false
        → (w.places ≡ []) ⊎ EndsUsed code log w

  -- a block has a cause: the mutex is held at the end, the child never exits, or the thread sleeps
  abbrev pub HasCause : Walk → Blocked → Type 0
  HasCause w (Lock m) = IsHeldAtEnd code log m
  HasCause w (Wake c m k) = Unit {0}
  HasCause w (Join k) = NeverExits code log (child w.name k)

  -- a normal log of a deadlock: whatever blocks a thread has a cause
  pub record IsNormalDeadlock : Type 0 where
    pub paths : FitTogether
    pub ends : log.failing ≡ Deadlock
    pub caused : (j : ℕ) (w : Walk) (b : Blocked) → IsThread code log j w → w.blocked ≡ Some b
        → HasCause w b
