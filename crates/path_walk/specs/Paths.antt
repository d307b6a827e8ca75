-- The walks of all threads of a log.
use Rattle.std.specs.Prelude.{◌≡◌, ℕ, ◌-◌, ◌^◌, List, map, length, Bool, false, ◌||◌, sum, min, Option, None, is_none, unwrap_or, option_and_then}
use Rattle.std.specs.List.{list_all, list_any}
use Rattle.tc_base.specs.Names.{Name}
use Rattle.tc_base.specs.Paths.{ThreadPath}
use Rattle.run_log.specs.Logs.{Log}
use Rattle.tc_base.specs.declared.failing.Failing.{Failing}
use Rattle.tc_base.specs.declared.failing.Failing.TheVariants.{Thread, Deadlock}
use Rattle.tc_code.specs.Code.{Code}
use Rattle.tc_code.specs.declared.instr.Instr.{Instr}
use Rattle.path_walk.specs.Steps.{Step, is_failing, steps_at, standing}
use Rattle.path_walk.specs.Fits.{fails_in, ending_of, places_in, function_of, Fits}
use Rattle.path_walk.specs.Marks.{Marks, marks_at_start, marks_after, marked_steps}
use Rattle.path_walk.specs.Events.{events_of, regions_of, sleeps_of, creates_of, joins_of, blocked_at, is_impossible, operators_of}
use Rattle.path_walk.specs.declared.ending.Ending.{Ending}
use Rattle.path_walk.specs.declared.ending.Ending.TheVariants.{Rests}
use Rattle.path_walk.specs.declared.event.Blocked.{Blocked}
use Rattle.path_walk.specs.declared.event.Event.{Event}
use Rattle.path_walk.specs.declared.event.Region.{Region}
use Rattle.path_walk.specs.declared.event.Sleep.{Sleep}
use Rattle.path_walk.specs.declared.event.Link.{Link}

-- the walk of one thread along its path
pub record Walk : Type 0 where
  pub name : Name
  -- the number of its function
  pub function : ℕ
  -- the outcomes of its branches, in order
  pub outcomes : List Bool
  -- for each step, the index of its instruction in the function
  pub places : List ℕ
  pub events : List Event
  pub regions : List Region
  pub sleeps : List Sleep
  pub creates : List Link
  pub joins : List Link
  -- what blocks the thread, if it rests and has not exited
  pub blocked : Option Blocked

pub record Paths : Type 0 where
  -- the index of the thread that failed, or a deadlock
  pub failing : Failing
  pub threads : List Walk
  -- the total number of events, and of operators in the instructions of all steps
  pub events : ℕ
  pub operators : ℕ
  -- whether the paths alone rule out every run
  pub dead : Bool

-- a number as a saturating 64-bit counter shows it
abbrev pub saturated_count : ℕ → ℕ
saturated_count n = min n (2 ^ 64 - 1)

-- what blocks a thread at the end of its path, if it rests there and has not exited
abbrev pub blocked_after : Ending → Marks → List Sleep → Option Instr → Option Blocked
blocked_after Rests t sleeps at = option_and_then (blocked_at t sleeps) at
blocked_after _ t sleeps at = None

-- the walk of a thread in function f, from its ending and the places of its steps
abbrev pub walk_by : Code → Ending → ThreadPath → ℕ → List ℕ → Walk
walk_by code ending t f places =
    let steps = steps_at code f places in
    let events = events_of code f (marked_steps code f (is_failing ending) steps) in
    let sleeps = sleeps_of events in
    record {
      name = t.name;
      function = f;
      outcomes = t.path.outcomes;
      places = places;
      events = events;
      regions = regions_of events;
      sleeps = sleeps;
      creates = creates_of events;
      joins = joins_of events;
      blocked =
          blocked_after ending (marks_after (marks_at_start code f) steps) sleeps
          (standing code f t.path);
    }

-- whether the log claims a deadlock although no thread is blocked
abbrev pub have_exited : Failing → List Walk → Bool
have_exited (Thread k) walks = false
have_exited Deadlock walks = list_all (λ w. is_none w.blocked) walks

-- These have a meaning only for a log that fits: there, each thread has a function and places.
module _ (code : Code) (log : Log) where
  abbrev pub function_in : ThreadPath → ℕ
  function_in t = unwrap_or (function_of code log t.name) 0

  abbrev pub steps_in : ThreadPath → List Step
  steps_in t = steps_at code (function_in t) (places_in code log t.name (function_in t))

  abbrev pub walk_of : ThreadPath → Walk
  walk_of t =
      walk_by code (ending_of log t.name) t (function_in t)
      (places_in code log t.name (function_in t))

  -- whether the path of one thread alone rules out every run
  abbrev pub is_dead : ThreadPath → Bool
  is_dead t =
      list_any is_impossible (marked_steps code (function_in t) (fails_in log t.name) (steps_in t))

  abbrev pub operators_in : ThreadPath → ℕ
  operators_in t = sum (map (λ s. operators_of s.instr) (steps_in t))

  abbrev pub paths_of : Paths
  paths_of = record {
    failing = log.failing;
    threads = map walk_of log.threads;
    events = sum (map (λ t. length (walk_of t).events) log.threads);
    operators = saturated_count (sum (map operators_in log.threads));
    dead = list_any is_dead log.threads || have_exited log.failing (map walk_of log.threads);
  }

-- the paths are those of some log that fits the code
pub record ArePaths (code : Code) (paths : Paths) : Type 0 where
  pub log : Log
  pub fits : Fits code log
  pub are : paths ≡ paths_of code log
