-- The draft of a log's paths: its first threads.
use Rattle.std.specs.Prelude.{◌≡◌, ℕ, ◌+◌, ◌<◌, ◌≤◌, ◌*◌, zero, suc, List, [], ◌∷◌, ◌++◌, take, map, sum, length, get_or, slice_get}
use Rattle.std.specs.Prelude.{Bool, true, false, ◌||◌, if◌then◌else◌, Result, Ok, Err, Option, Some, None, IfSome, IsSome, option_and_then}
use Rattle.std.specs.List.{list_any}
use Rattle.std.specs.Ordering.{is_lt}
use Rattle.tc_base.specs.Names.{Name, child, by_name}
use Rattle.run_log.specs.Logs.{Log}
use Rattle.tc_base.specs.Paths.{ThreadPath, path_under}
use Rattle.tc_base.specs.declared.failing.Failing.{Failing}
use Rattle.tc_code.specs.Code.{Code}
use Rattle.run_log.specs.Logs.{rises_from}
use Rattle.path_walk.specs.Fits.{started, function_of, misfit_of}
use Rattle.path_walk.specs.Paths.{Walk, Paths, saturated_count, have_exited, walk_of, steps_in, operators_in, is_dead}
use Rattle.path_walk.specs.declared.fault.Misfit.{Misfit}
use Rattle.path_walk.specs.declared.fault.Misfit.TheVariants.{Missing}
use Rattle.path_walk.specs.declared.fault.WalkFault.{WalkFault}
use Rattle.path_walk.specs.declared.fault.WalkFault.TheVariants.{Unfit}
use Rattle.path_walk.specs.helpers.Accounts.{Account}

-- what is known after the first threads of a log
pub record Draft : Type 0 where
  pub threads : List Walk
  -- for each thread, the functions of the children that it creates
  pub started : List (List ℕ)
  pub events : ℕ
  pub operators : ℕ
  pub dead : Bool
  -- the least name of a created child that isn't in the log, if any
  pub missing : Option Name

-- the lesser of two names, either of which may be absent
abbrev pub least : Option Name → Option Name → Option Name
least None b = b
least (Some a) None = Some a
least (Some a) (Some b) = if is_lt (by_name b a) then Some b else Some a

-- a draft with one more thread, given the least of its children that isn't in the log
abbrev pub added : Draft → Account → Option Name → Draft
added d c found = record {
  threads = d.threads ++ c.walk ∷ [];
  started = d.started ++ c.started ∷ [];
  events = d.events + length c.walk.events;
  operators = saturated_count (d.operators + c.operators);
  dead = d.dead || c.dead;
  missing = least d.missing found;
}

abbrev pub no_draft : Draft
no_draft =
    record { threads = []; started = []; events = 0; operators = 0; dead = false; missing = None }

-- the option has a name, and n isn't less than it
abbrev pub IsAtLeast : Option Name → Name → Type 0
IsAtLeast None n = ⊥
IsAtLeast (Some q) n = is_lt (by_name n q) ≡ false

-- one of the parent's first `count` children, and it isn't in the log
pub record IsAbsentChild (log : Log) (parent : Name) (count : ℕ) (n : Name) : Type 0 where
  pub number : ℕ
  pub within : number < count
  pub name : n ≡ child parent (number + 1)
  pub absent : path_under n log.threads ≡ None

-- the first of the parent's first `count` children that isn't in the log, if any
pub record IsFirstAbsent (log : Log) (parent : Name) (count : ℕ)
    (found : Option Name) : Type 0 where
  pub absent : IfSome found (IsAbsentChild log parent count)
  pub first : (j : ℕ) → j < count → path_under (child parent (j + 1)) log.threads ≡ None
      → IsAtLeast found (child parent (j + 1))

-- the fault of a thread, unless a missing child has a lesser name: then that fault
abbrev pub first_fault : Option Name → Name → Misfit → WalkFault
first_fault None n m = Unfit n m
first_fault (Some q) n m = if is_lt (by_name q n) then Unfit q Missing else Unfit n m

-- t is the thread at index k of the log
pub record IsNext (log : Log) (k : ℕ) (t : ThreadPath) : Type 0 where
  pub within : k < length log.threads
  pub there : t ≡ get_or log.threads k t

-- the name is a child that one of the threads creates, and it isn't in the log
pub record IsMissing (code : Code) (log : Log) (threads : List ThreadPath) (n : Name) : Type 0 where
  pub parent : Name
  pub number : ℕ
  pub name : n ≡ child parent number
  pub within : IsSome (path_under parent threads)
  pub created : IsSome (function_of code log n)
  pub absent : path_under n log.threads ≡ None

-- d is the draft of the first threads of a log, and none of these has a fault
pub record IsDraft (code : Code) (log : Log) (d : Draft) : Type 0 where
  pub rises : rises_from None log.threads ≡ true
  pub main : IsSome (path_under [] log.threads)
  pub threads : d.threads ≡ map (walk_of code log) (take (length d.threads) log.threads)
  pub started : d.started ≡ map (λ t. started (steps_in code log t))
      (take (length d.threads) log.threads)
  pub events : d.events ≡ sum
      (map (λ t. length (walk_of code log t).events) (take (length d.threads) log.threads))
  pub few : d.events ≤ 65536 * length d.threads
  pub operators : d.operators ≡ saturated_count
      (sum (map (operators_in code log) (take (length d.threads) log.threads)))
  pub dead : d.dead ≡ list_any (is_dead code log) (take (length d.threads) log.threads)
  pub fit : (n : Name) → IsSome (path_under n (take (length d.threads) log.threads))
      → misfit_of code log n ≡ None
  pub missing : IfSome d.missing (IsMissing code log (take (length d.threads) log.threads))
  pub least : (n : Name) → IsMissing code log (take (length d.threads) log.threads) n
      → IsAtLeast d.missing n

-- the function of a child, counted from 1, of the thread at an index
abbrev pub started_at : List (List ℕ) → ℕ → ℕ → Option ℕ
started_at started place zero = None
started_at started place (suc k) =
    option_and_then (λ functions. slice_get functions k) (slice_get started place)

-- the paths that a complete draft gives
abbrev pub paths_by : Draft → Failing → Paths
paths_by d failing = record {
  failing = failing;
  threads = d.threads;
  events = d.events;
  operators = d.operators;
  dead = d.dead || have_exited failing d.threads;
}

-- the paths of a draft, or the fault of the least missing child
abbrev pub finished_by : Option Name → Draft → Failing → Result Paths WalkFault
finished_by None d failing = Ok (paths_by d failing)
finished_by (Some n) d failing = Err (Unfit n Missing)

abbrev pub finished : Draft → Failing → Result Paths WalkFault
finished d failing = finished_by d.missing d failing
