-- Threads that have followed a prefix of their paths in a log.
use Rattle.std.specs.Prelude.{◌≡◌, ◌≤◌, ◌==◌, Bool, false, ◌&&◌, List, ◌++◌, Option, Some, bytes_eq}
use Rattle.std.specs.FinMap as fin
use Rattle.std.specs.Option.{option_map_or}
use Rattle.path_walk.specs.run_log.Logs.{Log}
use Rattle.path_walk.specs.tc_base.Paths.{Path, path_under}
use Rattle.path_walk.specs.tc_base.Names.{Name}
use Rattle.path_walk.specs.tc_base.States.{Local, Thread, State}
use Rattle.path_walk.specs.Fits.{fails_in}

-- whether the named thread is the one that failed
abbrev pub fails_by : Option Name → Name → Bool
fails_by failed n = option_map_or (bytes_eq n) failed false

-- a thread has followed a prefix of its path in a log; it has failed if and only if it has done all
-- its steps and the log says that it fails
pub record IsOnPath (log : Log) (failed : Option Name) (n : Name) (t : Local) : Type 0 where
  pub path : Path
  pub there : path_under n log.threads ≡ Some path
  pub steps : t.steps ≤ path.steps
  pub later : List Bool
  pub outcomes : path.outcomes ≡ t.outcomes ++ later
  pub fails : fails_by failed n ≡ (fails_in log n && t.steps == path.steps)

-- every thread of a state has followed a prefix of its path
abbrev pub AreOnPaths : {B : Type 0} → Log → State B → Type 0
AreOnPaths {B} log s =
    (n : Name) (t : Thread B) → fin.get s.threads n ≡ Some t → IsOnPath log s.failed n t.local
