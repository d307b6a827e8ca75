-- Histories that match a log.
use Rattle.std.specs.Prelude.{◌≡◌, Bool, List, Option, Some, option_map, slice_get, IsSomeAnd}
use Rattle.std.specs.FinMap as fin
use Rattle.run_history.specs.tc_base.Paths.{Path, ThreadPath, path_under}
use Rattle.run_history.specs.run_log.Logs.{Log}
use Rattle.run_history.specs.tc_base.Names.{Name}
use Rattle.run_history.specs.tc_base.States.{Local}
use Rattle.run_history.specs.tc_base.declared.failing.Failing.{Failing}
use Rattle.run_history.specs.tc_base.declared.failing.Failing.TheVariants as failing
use Rattle.run_history.specs.tc_code.Code.{Code}
use Rattle.run_history.specs.store_buffers.Pending.{Binding}
use Rattle.run_history.specs.History.{Deed}
use Rattle.run_history.specs.Locals.{locals_in}
use Rattle.run_history.specs.Told.{failed_in}
use Rattle.run_follows.specs.Follow.{IsStuckIn}

-- the path of a thread, from its local state
abbrev pub path_by : Local → Path
path_by t = record { outcomes = t.outcomes; steps = t.steps }

-- the path of a thread in a history, if the thread exists
abbrev pub path_told : Code → List Deed → Name → Option Path
path_told code h n = option_map path_by (fin.get (locals_in code h) n)

-- the history ends as logged: the thread at the index has failed, or there is a deadlock
abbrev pub EndsAsIn : Bool → Binding → Code → Failing → List ThreadPath → List Deed → Type 0
EndsAsIn buffered bound code (failing.Thread k) threads h =
    IsSomeAnd (slice_get threads k) (λ t. failed_in h ≡ Some t.name)
EndsAsIn buffered bound code failing.Deadlock threads h = IsStuckIn buffered bound code h

-- the history ends as the log says, and each thread has the same path in both
pub record GoesAsLogged (buffered : Bool) (bound : Binding) (code : Code) (log : Log)
    (h : List Deed) : Type 0 where
  pub ends : EndsAsIn buffered bound code log.failing log.threads h
  pub paths : (n : Name) → path_told code h n ≡ path_under n log.threads
