-- The forms of inputs, and why an input isn't of its form.
use Rattle.std.specs.Prelude.{◌≡◌, ℕ, List}
use Rattle.run_log.specs.memory_models.declared.model.Model.{Model}
use Rattle.run_log.specs.Logs.{StoredLog}
use Rattle.path_log.specs.Faults.{BreaksAt}
use Rattle.path_log.specs.Texts.{IsLog, IsOfOther}
use Rattle.schedule_file.specs.Schedules.{HaveText, schedule_text}
use Rattle.tc_base.specs.declared.moves.Move.{Move}
use Rattle.tc_code.specs.Code.{Code}
use Rattle.tc_compile.specs.Programs.{IsCodeOf, IsRefusal}
use Rattle.command_inputs.specs.declared.refusal.Fault.{Fault}
use Rattle.command_inputs.specs.declared.refusal.Fault.TheVariants.{Refused, Memory}
use Rattle.command_inputs.specs.declared.refusal.LogRefusal.TheVariants.{Form, OtherProgram}
use Rattle.command_inputs.specs.declared.refusal.Refusal.{Refusal}
use Rattle.command_inputs.specs.declared.refusal.Refusal.TheVariants.{Program, Log}

-- the bytes of two files are a program, which has this code, and a log
pub record Pair (program log : List ℕ) : Type 0 where
  pub code : Code
  pub run : StoredLog
  pub programs : IsCodeOf program code
  pub logs : IsLog log run

-- there is no memory, or an input is refused for a reason that satisfies `P`
abbrev pub IsWhy : (Refusal → Type 0) → Fault → Type 0
IsWhy P (Refused refusal) = P refusal
IsWhy P Memory = Unit {0}

-- the program isn't of its form, or it is and the log isn't
abbrev pub IsUnread : (program log : List ℕ) → Refusal → Type 0
IsUnread program log (Program fault) = IsRefusal program fault
IsUnread program log (Log (Form offset)) =
    (code : Code) × IsCodeOf program code × BreaksAt log offset
IsUnread program log _ = ⊥

-- the log is of another program
abbrev pub IsOther : (program : List ℕ) → StoredLog → Refusal → Type 0
IsOther program log (Log OtherProgram) = IsOfOther program log
IsOther program log _ = ⊥

-- moves, and the memory model under which they are made
pub record Schedule : Type 0 where
  pub model : Model
  pub moves : List Move

-- the bytes are the text of the schedule
pub record IsSchedule (bytes : List ℕ) (schedule : Schedule) : Type 0 where
  pub have_text : HaveText schedule.model schedule.moves
  pub text : bytes ≡ schedule_text schedule.model schedule.moves
