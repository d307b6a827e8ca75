-- The state after all moves, compared with a log.
use Rattle.std.specs.Prelude.{Bool, false, ◌&&◌, ◌==◌, if◌then◌else◌, Option, Some, None}
use Rattle.std.specs.Bool.{beq}
use Rattle.std.specs.Cmp.Lexicographic.{pointwise}
use Rattle.std.specs.declared.cmp.Ordering.{Ordering}
use Rattle.std.specs.declared.cmp.Ordering.TheVariants.{Less, Equal, Greater}
use Rattle.tc_base.specs.Names.{Name, by_name}
use Rattle.tc_base.specs.States.{State}
use Rattle.tc_base.specs.Paths.{Path, ThreadPath}
use Rattle.run_log.specs.Logs.{Log}
use Rattle.tc_base.specs.Buffers.{BufferOps}
use Rattle.tc_code.specs.Code.{Code}
use Rattle.tc_code.specs.Run.{path_in, EndsAs}
use Rattle.schedule_replay.specs.Verdicts.{GoesAsLogged, IsFirstToDiffer, IsVerdictAt}
use Rattle.schedule_replay.specs.declared.verdict.Verdict.{Verdict}
use Rattle.schedule_replay.specs.declared.verdict.Verdict.TheVariants as verdict

-- whether there is a path, and it is p
abbrev pub is_path : Option Path → Path → Bool
is_path None p = false
is_path (Some q) p = q.steps == p.steps && pointwise beq q.outcomes p.outcomes

abbrev pub by_order : {X : Type 0} → Ordering → X → X → X → X
by_order Less x y z = x
by_order Equal x y z = y
by_order Greater x y z = z

module _ {B : Type 0} (ops : BufferOps B) (code : Code) (s : State B) (log : Log) where
  abbrev pub EndsAsLogged : Type 0
  EndsAsLogged = EndsAs ops code log.failing log.threads s

  -- the verdict on the state after all moves
  abbrev pub IsJudged : Verdict → Type 0
  IsJudged verdict.Reproduces = EndsAsLogged × ((n : Name) → GoesAsLogged s log n)
  IsJudged v = IsVerdictAt ops code s log v

  -- the verdict if the run doesn't end as the log says, and none if it does
  abbrev pub IsOtherEnd : Option Verdict → Type 0
  IsOtherEnd None = EndsAsLogged
  IsOtherEnd (Some v) = IsVerdictAt ops code s log v

module _ {B : Type 0} where
  -- the least name whose path differs, if any
  abbrev pub IsFirstOther : State B → Log → Option Name → Type 0
  IsFirstOther s log None = (n : Name) → GoesAsLogged s log n
  IsFirstOther s log (Some n) = IsFirstToDiffer s log n

  -- the lesser of a log's and a run's thread, if their names or their paths differ
  abbrev pub other_at : State B → ThreadPath → Name → Option Name
  other_at s t n =
      by_order (by_name t.name n) (Some t.name)
      (if is_path (path_in s t.name) t.path then None else Some n) (Some n)
