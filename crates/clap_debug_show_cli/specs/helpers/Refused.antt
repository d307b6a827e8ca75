-- Faults in place of a result.
use Rattle.std.specs.Prelude.{ℕ, List}
use Rattle.path_log.specs.declared.fault.LogFault.{LogFault}
use Rattle.path_log.specs.declared.fault.LogFault.TheVariants as log
use Rattle.path_walk.specs.declared.fault.WalkFault.{WalkFault}
use Rattle.path_walk.specs.declared.fault.WalkFault.TheVariants as walk
use Rattle.schedule_file.specs.declared.fault.ScheduleFault.{ScheduleFault}
use Rattle.schedule_file.specs.declared.fault.ScheduleFault.TheVariants as schedule
use Rattle.tc_code.specs.Code.{Code}
use Rattle.tc_compile.specs.declared.fault.CompileFault.{CompileFault}
use Rattle.tc_compile.specs.declared.fault.CompileFault.TheVariants as compile
use Rattle.clap_debug_show_cli.specs.Causes.{IsFileRefusal, IsRefusalOf}
use Rattle.clap_debug_show_cli.specs.declared.refusal.Fault.{Fault}
use Rattle.clap_debug_show_cli.specs.declared.refusal.Fault.TheVariants.{Refused, Memory}
use Rattle.clap_debug_show_cli.specs.declared.refusal.Refusal.TheVariants.{ProgramRefused, LogBroken, Unfit, ScheduleRefused}

abbrev pub compile_fault : CompileFault → Fault
compile_fault (compile.Refused fault) = Refused (ProgramRefused fault)
compile_fault compile.Memory = Memory

abbrev pub log_fault : LogFault → Fault
log_fault (log.Form offset) = Refused (LogBroken offset)
log_fault log.Memory = Memory

abbrev pub walk_fault : WalkFault → Fault
walk_fault (walk.Unfit name misfit) = Refused (Unfit name misfit)
walk_fault walk.Memory = Memory

abbrev pub schedule_fault : ScheduleFault → Fault
schedule_fault (schedule.Form line) = Refused (ScheduleRefused line)
schedule_fault schedule.Memory = Memory

-- memory ran out, or this is the reason why the file shows nothing
abbrev pub IsWhyNoStory : Code → (program file : List ℕ) → Fault → Type 0
IsWhyNoStory code program file (Refused refusal) = IsFileRefusal code program file refusal
IsWhyNoStory code program file Memory = Unit {0}

-- the same for the bytes of two files
abbrev pub IsWhyNotShown : (program file : List ℕ) → Fault → Type 0
IsWhyNotShown program file (Refused refusal) = IsRefusalOf program file refusal
IsWhyNotShown program file Memory = Unit {0}
