-- From a file that isn't of its form to why there is no verdict.
use Rattle.std.proofs.Common.{ℕ, List}
use Rattle.command_inputs.specs.path_log.Texts.{IsLog}
use Rattle.run_log.specs.Logs.{StoredLog}
use Rattle.schedule_file.specs.Faults.{IsFault}
use Rattle.schedule_file.specs.declared.fault.ScheduleFault.{ScheduleFault}
use Rattle.schedule_file.specs.declared.fault.ScheduleFault.TheVariants.{Form, Memory}
use Rattle.tc_code.specs.Code.{Code}
use Rattle.command_inputs.specs.tc_compile.Programs.{IsCodeOf}
use Rattle.command_inputs.specs.Forms.{IsOther, IsSchedule, IsUnread, IsWhy, Schedule}
use Rattle.command_inputs.specs.helpers.Faults.{schedule_fault}
use Rattle.command_inputs.specs.declared.refusal.Fault.{Fault}
use Rattle.command_inputs.specs.declared.refusal.Fault.TheVariants as fault
use Rattle.command_inputs.specs.declared.refusal.LogRefusal.TheVariants.{Form as Broken, OtherProgram}
use Rattle.command_inputs.specs.declared.refusal.Refusal.{Refusal}
use Rattle.command_inputs.specs.declared.refusal.Refusal.TheVariants.{Program, Log}
use Rattle.replay_command.specs.Causes.{IsUnreplayed}

module _ (program log schedule : List ℕ) where
  unread : (r : Refusal) → IsUnread program log r → IsUnreplayed program log schedule r
  unread (Program fault) h = h
  unread (Log (Broken offset)) h = h
  unread _ h = absurd h

  pub unread_both : (f : Fault) → IsWhy (IsUnread program log) f → IsWhy (IsUnreplayed program log schedule) f
  unread_both (fault.Refused r) h = unread r h
  unread_both fault.Memory h = tt

  module _ (code : Code) (run : StoredLog) (programs : IsCodeOf program code) (logs : IsLog log run) where
    pub unread_schedule : (f : ScheduleFault) → IsFault schedule f → IsWhy (IsUnreplayed program log schedule) (schedule_fault f)
    unread_schedule (Form line) h = (record { code = code; run = run; programs = programs; logs = logs }, h)
    unread_schedule Memory h = tt

    pub foreign : (plan : Schedule) → IsSchedule schedule plan → (r : Refusal) → IsOther program run r → IsUnreplayed program log schedule r
    foreign plan plans (Log OtherProgram) h =
        (record { pair = record { code = code; run = run; programs = programs; logs = logs }; plan = plan; schedules = plans }, h)
    foreign plan plans _ h = absurd h
