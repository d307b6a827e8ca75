-- Runs that fail without a step that can be left out and without a pure turn.
use Rattle.std.specs.Prelude.{◌≡◌, ◌≤◌, ℕ, Bool, length, List, Some}
use Rattle.pure_turns.specs.tc_base.Names.{Name}
use Rattle.pure_turns.specs.tc_base.Paths.{Path}
use Rattle.pure_turns.specs.tc_code.Code.{Code}
use Rattle.least_runs.specs.store_buffers.Pending.{Binding}
use Rattle.least_runs.specs.run_history.History.{Deed}
use Rattle.least_runs.specs.run_history.Told.{failed_in}
use Rattle.least_runs.specs.run_follows.Follow.{AllFollow}
use Rattle.least_runs.specs.run_follows.Logged.{path_told}
use Rattle.least_runs.specs.Least.{IsLeast}
use Rattle.pure_turns.specs.Live.{Liveness}
use Rattle.short_runs.specs.Turns.{HasNoPureTurnIn}

-- each thread has at most k outcomes
abbrev pub HasOutcomesUpTo : Code → ℕ → List Deed → Type 0
HasOutcomesUpTo code k h =
    (n : Name) (p : Path) → path_told code h n ≡ Some p → length p.outcomes ≤ k

-- a run in which thread f fails, no step of another thread can be left out, and no part is a pure
-- turn
pub record IsShort (buffered : Bool) (bound : Binding) (code : Code) (live : Liveness) (f : Name)
    (h : List Deed) : Type 0 where
  pub run : AllFollow buffered bound code h
  pub fails : failed_in h ≡ Some f
  pub least : IsLeast f h
  pub turnless : HasNoPureTurnIn code live h
