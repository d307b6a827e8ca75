-- What comes of a program, a log and a schedule.
use Rattle.std.specs.Prelude.{ℕ, List, [], ◌∷◌, Result, Ok, Err}
use Rattle.command_inputs.specs.path_log.Texts.{IsOfOther}
use Rattle.schedule_file.specs.Faults.{BreaksAt as ScheduleBreaksAt}
use Rattle.schedule_replay.specs.Verdicts.{IsVerdict}
use Rattle.schedule_replay.specs.declared.verdict.Verdict.{Verdict}
use Rattle.store_buffers.specs.Buffers.{buffer_of}
use Rattle.command_frame.specs.Inputs.{Texts}
use Rattle.command_inputs.specs.Forms.{IsSchedule, IsUnread, Pair, Schedule}
use Rattle.command_inputs.specs.declared.refusal.LogRefusal.TheVariants.{OtherProgram}
use Rattle.command_inputs.specs.declared.refusal.Refusal.{Refusal}
use Rattle.command_inputs.specs.declared.refusal.Refusal.TheVariants as refusal

-- the bytes of three files are a program, a log and a schedule
pub record Readable (program log schedule : List ℕ) : Type 0 where
  pub pair : Pair program log
  pub plan : Schedule
  pub schedules : IsSchedule schedule plan

-- the log isn't of another program, and this is the verdict on the schedule
pub record IsReplayed (program log schedule : List ℕ) (v : Verdict) : Type 0 where
  pub files : Readable program log schedule
  pub own : IsOfOther program files.pair.run → ⊥
  pub verdict :
      IsVerdict (buffer_of files.plan.model) files.pair.code files.pair.run.log files.plan.moves v

-- Why there is no verdict: the first file that breaks its form is named; or all have their forms,
-- and the log is of another program.
abbrev pub IsUnreplayed : (program log schedule : List ℕ) → Refusal → Type 0
IsUnreplayed program log schedule (refusal.Log OtherProgram) =
    (files : Readable program log schedule) × IsOfOther program files.pair.run
IsUnreplayed program log schedule (refusal.Schedule line) =
    Pair program log × ScheduleBreaksAt schedule line
IsUnreplayed program log schedule why = IsUnread program log why

-- what comes of the bytes of the files: the verdict, or why there is none
abbrev pub Replays : Texts → Result Verdict Refusal → Type 0
Replays (program ∷ log ∷ schedule ∷ []) (Ok v) = IsReplayed program log schedule v
Replays (program ∷ log ∷ schedule ∷ []) (Err why) = IsUnreplayed program log schedule why
Replays _ outcome = ⊥
