-- The verdict of a replay on a schedule.
use Rattle.std.specs.Prelude.{◌≡◌, ◌⊎◌, ℕ, ◌+◌, List, ◌∷◌, ◌++◌, length, Some, None, IsSome}
use Rattle.std.specs.declared.cmp.Ordering.TheVariants.{Less}
use Rattle.tc_base.specs.Names.{Name, by_name}
use Rattle.tc_base.specs.Buffers.{BufferOps}
use Rattle.tc_base.specs.States.{State}
use Rattle.run_log.specs.Logs.{Log, failing_of}
use Rattle.tc_base.specs.Paths.{place_in, path_under}
use Rattle.tc_base.specs.declared.failing.Failing.TheVariants.{Deadlock}
use Rattle.tc_base.specs.declared.moves.Move.{Move}
use Rattle.tc_code.specs.Code.{Code}
use Rattle.tc_code.specs.Run.{run, path_in, IsLeft, EndsAs, Reproduces}
use Rattle.tc_code.specs.Step.{step}
use Rattle.tc_machine.specs.Why.{why}
use Rattle.tc_machine.specs.declared.why.Why.{Why}
use Rattle.schedule_replay.specs.declared.verdict.Verdict.{Verdict}
use Rattle.schedule_replay.specs.declared.verdict.Verdict.TheVariants as verdict

module _ {B : Type 0} where
  -- the thread has the same path in the run as in the log, or it is in neither
  abbrev pub GoesAsLogged : State B → Log → Name → Type 0
  GoesAsLogged s log n = path_in s n ≡ path_under n log.threads

  -- the least name whose path differs
  pub record IsFirstToDiffer (s : State B) (log : Log) (n : Name) : Type 0 where
    pub differs : ¬ (GoesAsLogged s log n)
    pub least : (m : Name) → by_name m n ≡ Less → GoesAsLogged s log m

module _ {B : Type 0} (ops : BufferOps B) (code : Code) where
  -- some move is enabled, or every thread has exited
  abbrev pub GoesOn : State B → Type 0
  GoesOn s = ((m : Move) × IsSome (step ops code s m)) ⊎ ((n : Name) → ¬ (IsLeft s n))

  -- the verdict on the state after all moves
  abbrev pub IsVerdictAt : State B → Log → Verdict → Type 0
  IsVerdictAt s log verdict.NoFailure = IsSome (place_in log.failing) × (s.failed ≡ None)
  IsVerdictAt s log (verdict.OtherFailure n) = (s.failed ≡ Some n) × ¬ (failing_of log ≡ Some n)
  IsVerdictAt s log verdict.NotStuck = (log.failing ≡ Deadlock) × (s.failed ≡ None) × GoesOn s
  IsVerdictAt s log (verdict.OtherPath n) =
      EndsAs ops code log.failing log.threads s × IsFirstToDiffer s log n
  IsVerdictAt s log _ = ⊥

  -- the first move that isn't enabled has this number, from 1, and this reason
  pub record StopsAt (moves : List Move) (number : ℕ) (reason : Why) : Type 0 where
    pub before : List Move
    pub move : Move
    pub after : List Move
    pub state : State B
    pub split : moves ≡ before ++ move ∷ after
    pub counted : number ≡ length before + 1
    pub leads : run ops code before ≡ Some state
    pub stops : why ops code state move ≡ Some reason

  -- the verdict on the moves, against a log
  abbrev pub IsVerdict : Log → List Move → Verdict → Type 0
  IsVerdict log moves (verdict.Stops number reason) = StopsAt moves number reason
  IsVerdict log moves verdict.Reproduces = Reproduces ops code log moves
  IsVerdict log moves v = (s : State B) × (run ops code moves ≡ Some s) × IsVerdictAt s log v
