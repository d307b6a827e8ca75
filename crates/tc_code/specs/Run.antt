-- Runs of the machine, and what they reproduce.
use Rattle.std.specs.Prelude.{◌≡◌, List, [], ◌∷◌, false, Option, Some, None, option_and_then, option_map, slice_get, IsSomeAnd}
use Rattle.std.specs.FinMap as map
use Rattle.run_log.specs.tc_base.Names.{Name}
use Rattle.run_log.specs.tc_base.Buffers.{BufferOps}
use Rattle.run_log.specs.tc_base.States.{Thread, State}
use Rattle.run_log.specs.tc_base.Paths.{Path, ThreadPath, path_under}
use Rattle.run_log.specs.Logs.{Log}
use Rattle.run_log.specs.tc_base.declared.failing.Failing.{Failing}
use Rattle.run_log.specs.tc_base.declared.failing.Failing.TheVariants as failing
use Rattle.run_log.specs.tc_base.declared.moves.Move.{Move}
use Rattle.tc_code.specs.Code.{Code}
use Rattle.tc_code.specs.Step.{step, opening}

-- a thread's path: the outcomes of its branches, and its number of steps
abbrev pub path_of : {B : Type 0} → Thread B → Path
path_of t = record { outcomes = t.local.outcomes; steps = t.local.steps }

-- the path of the thread with this name, if there is one
abbrev pub path_in : {B : Type 0} → State B → Name → Option Path
path_in s n = option_map path_of (map.get s.threads n)

-- the thread with this name exists and hasn't exited
pub record IsLeft {B : Type 0} (s : State B) (n : Name) : Type 0 where
  pub thread : Thread B
  pub there : map.get s.threads n ≡ Some thread
  pub going : thread.local.has_exited ≡ false

module _ {B : Type 0} (ops : BufferOps B) (code : Code) where
  -- the state after these moves from a state, or None if a move isn't enabled
  abbrev pub run_from : State B → List Move → Option (State B)
  run_from s [] = Some s
  run_from s (m ∷ ms) = option_and_then (λ u. run_from u ms) (step ops code s m)

  abbrev pub run : List Move → Option (State B)
  run ms = run_from (opening ops code) ms

  -- a reachable state: some moves lead to it
  pub record IsReached (s : State B) : Type 0 where
    pub moves : List Move
    pub leads : run moves ≡ Some s

  -- a deadlock: no thread has failed, no move is enabled, and some thread hasn't exited
  pub record IsStuck (s : State B) : Type 0 where
    pub unfailed : s.failed ≡ None
    pub still : (m : Move) → step ops code s m ≡ None
    pub left : (n : Name) × IsLeft s n

  -- the state ends as logged: the thread at this place has failed, or there is a deadlock
  abbrev pub EndsAs : Failing → List ThreadPath → State B → Type 0
  EndsAs (failing.Thread k) threads s =
      IsSomeAnd (slice_get threads k) (λ t. s.failed ≡ Some t.name)
  EndsAs failing.Deadlock threads s = IsStuck s

  -- the moves reproduce the log: the run ends as logged, and each thread takes its logged path
  pub record Reproduces (log : Log) (moves : List Move) : Type 0 where
    pub state : State B
    pub leads : run moves ≡ Some state
    pub ends : EndsAs log.failing log.threads state
    pub paths : (n : Name) → path_in state n ≡ path_under n log.threads
