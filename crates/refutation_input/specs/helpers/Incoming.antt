-- A refutation while it is read: its lines so far, and the checker's state.
use Rattle.std.specs.Prelude.{◌≡◌, ℕ, ◌≤◌, Bool, true, false, List, [], Option, Some, None, Result, Ok, Err, fold, ⊤}
use Rattle.command_inputs.specs.path_log.Texts.{IsLog, IsOfOther}
use Rattle.refute_check.specs.Laws.{whole_lines}
use Rattle.refute_check.specs.Reading.{Reading, Reads, beginning, first_breach}
use Rattle.refute_check.specs.Refutations.{Checking, state_after_line, start, verdict}
use Rattle.refute_check.specs.declared.head.Head.{Head}
use Rattle.refute_check.specs.declared.line.Line.{Line}
use Rattle.refute_check.specs.declared.line.TheConstants.{LINES}
use Rattle.refute_check.specs.declared.text.Taken.{Taken}
use Rattle.run_log.specs.Logs.{StoredLog}
use Rattle.command_inputs.specs.tc_compile.Programs.{IsCodeOf}
use Rattle.command_inputs.specs.Forms.{IsOther}
use Rattle.command_inputs.specs.declared.refusal.Refusal.{Refusal}
use Rattle.command_inputs.specs.declared.refusal.Refusal.TheVariants.{Refutation}
use Rattle.log_tasks.specs.Tasks.{Task}
use Rattle.log_tasks.specs.Refused.{IsUnsearched}
use Rattle.refutation_verdicts.specs.Refutations.{head_clauses}
use Rattle.refutation_verdicts.specs.Verdicts.{IsVerdict}
use Rattle.refutation_verdicts.specs.declared.verdict.Verdict.{Verdict}
use Rattle.refutation_input.specs.declared.incoming.Incoming.{Incoming}
use Rattle.refutation_input.specs.declared.incoming.Stage.{Stage}
use Rattle.refutation_input.specs.declared.incoming.Stage.TheVariants.{Begins, Refuses, Checks}

-- the stage after another line
abbrev pub stage_after : Stage → Line → Stage
stage_after (Checks most checker) line = Checks most (state_after_line checker line)
stage_after stage line = stage

-- the header isn't complete
abbrev pub begins : Stage → Bool
begins Begins = true
begins _ = false

-- the checker may take another line
abbrev pub HasRoom : Stage → Type 0
HasRoom (Checks most checker) = checker.line ≤ LINES
HasRoom _ = ⊤

-- the stage before any byte of a refutation of this log
abbrev pub IsFirst : (program : List ℕ) → StoredLog → Stage → Type 0
IsFirst program run Begins = IsOfOther program run → ⊥
IsFirst program run (Refuses why) = IsOther program run why
IsFirst program run (Checks most checker) = ⊥

-- what comes of a stage if the text has its form
abbrev pub IsEndOf : Stage → Result (Verdict (Option ℕ)) Refusal → Type 0
IsEndOf Begins outcome = outcome ≡ Err (Refutation 1)
IsEndOf (Refuses why) outcome = outcome ≡ Err why
IsEndOf (Checks most checker) (Ok v) = IsVerdict (λ named. named ≡ most) (verdict checker) v
IsEndOf (Checks most checker) (Err why) = ⊥

module _ (program log : List ℕ) where
  -- the lines are checked over the clauses of this header, as far as these
  abbrev pub IsAfter : Head → List Line → Option ℕ → Checking → Type 0
  IsAfter head lines most checker = (t : Task program log) × (most ≡ head.switches)
      × (checker
      ≡ fold state_after_line (start (head_clauses head t.pair.code t.pair.run.log)) lines)

  -- the stage after the header
  abbrev pub IsBegun : Head → Stage → Type 0
  IsBegun head (Refuses why) = IsUnsearched program log why
  IsBegun head (Checks most checker) = IsAfter head [] most checker
  IsBegun head Begins = ⊥

  -- the stage after these lines
  abbrev pub IsStage : StoredLog → Reading → List Taken → Stage → Type 0
  IsStage run text ts Begins =
      (IsOfOther program run → ⊥) × (first_breach text ≡ Some 1) × (text.fault ≡ None → ts ≡ [])
  IsStage run text ts (Refuses why) = IsUnsearched program log why
  IsStage run text ts (Checks most checker) =
      text.fault ≡ None → (h : Head) × (ls : List Line) × (ts ≡ whole_lines h ls)
      × IsAfter h ls most checker

  -- the stage after these bytes
  pub record IsRead (s : Incoming) (bytes : List ℕ) : Type 0 where
    pub programs : IsCodeOf program s.code
    pub logs : IsLog log s.log
    pub lines : List Taken
    pub reads : Reads beginning bytes lines s.text
    pub stage : IsStage s.log s.text lines s.stage
