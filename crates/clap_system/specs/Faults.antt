-- The reasons why a log has no system.
use Rattle.std.specs.Prelude.{◌≡◌, ℕ, ◌<◌, ◌≤◌, length, Some, None}
use Rattle.run_log.specs.Logs.{Log, first_deeper}
use Rattle.tc_limits.specs.declared.limits.TheConstants.{THREADS, DEPTH, EVENTS, OPERATORS}
use Rattle.tc_code.specs.Code.{Code}
use Rattle.path_walk.specs.Fits.{Fits, IsFirst}
use Rattle.path_walk.specs.Paths.{paths_of}
use Rattle.path_walk.specs.declared.fault.WalkFault.TheVariants as walk
use Rattle.clap_system.specs.declared.fault.BuildFault.{BuildFault}
use Rattle.clap_system.specs.declared.fault.BuildFault.TheVariants.{Walk, Limit, Memory}
use Rattle.clap_system.specs.declared.fault.Which.{Which}
use Rattle.clap_system.specs.declared.fault.Which.TheVariants.{Threads, Depth, Events, Operators}

-- the limit on a log's threads, depth, events or operators
abbrev pub limit_of : Which → ℕ
limit_of Threads = THREADS
limit_of Depth = DEPTH
limit_of Events = EVENTS
limit_of Operators = OPERATORS

-- a log's threads and the depth of their names are within the limits
pub record IsShallow (log : Log) : Type 0 where
  pub threads : length log.threads ≤ THREADS
  pub names : first_deeper DEPTH log.threads ≡ None

-- n is the log's number of this, and the limits that are checked before are met
abbrev pub IsOver : Code → Log → Which → ℕ → Type 0
IsOver code log Threads n = n ≡ length log.threads
IsOver code log Depth n = (length log.threads ≤ THREADS) × (first_deeper DEPTH log.threads ≡ Some n)
IsOver code log Events n = IsShallow log × Fits code log × (n ≡ (paths_of code log).events)
IsOver code log Operators n =
    IsShallow log × Fits code log × ((paths_of code log).events ≤ EVENTS)
    × (n ≡ (paths_of code log).operators)

-- what a fault says about the log; lack of memory says nothing, and isn't reported as the walk's
abbrev pub IsBuildFault : Code → Log → BuildFault → Type 0
IsBuildFault code log (Limit which n limit) =
    (limit_of which < n) × (limit ≡ limit_of which) × IsOver code log which n
IsBuildFault code log (Walk (walk.Unfit n m)) = IsShallow log × IsFirst code log n m
IsBuildFault code log (Walk walk.Memory) = ⊥
IsBuildFault code log Memory = Unit {0}
