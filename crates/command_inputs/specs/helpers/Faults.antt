-- Faults of the layers below as faults of commands.
use Rattle.path_log.specs.declared.fault.LogFault.{LogFault}
use Rattle.path_log.specs.declared.fault.LogFault.TheVariants as log
use Rattle.path_walk.specs.declared.fault.WalkFault.{WalkFault}
use Rattle.path_walk.specs.declared.fault.WalkFault.TheVariants as walk
use Rattle.schedule_file.specs.declared.fault.ScheduleFault.{ScheduleFault}
use Rattle.schedule_file.specs.declared.fault.ScheduleFault.TheVariants as schedule
use Rattle.tc_compile.specs.declared.fault.CompileFault.{CompileFault}
use Rattle.tc_compile.specs.declared.fault.CompileFault.TheVariants as compile
use Rattle.command_inputs.specs.declared.refusal.Fault.{Fault}
use Rattle.command_inputs.specs.declared.refusal.Fault.TheVariants.{Refused, Memory}
use Rattle.command_inputs.specs.declared.refusal.LogRefusal.TheVariants.{Form, Unfit}
use Rattle.command_inputs.specs.declared.refusal.Refusal.TheVariants.{Program, Log, Schedule}

abbrev pub compile_fault : CompileFault → Fault
compile_fault (compile.Refused fault) = Refused (Program fault)
compile_fault compile.Memory = Memory

abbrev pub log_fault : LogFault → Fault
log_fault (log.Form offset) = Refused (Log (Form offset))
log_fault log.Memory = Memory

abbrev pub walk_fault : WalkFault → Fault
walk_fault (walk.Unfit name misfit) = Refused (Log (Unfit name misfit))
walk_fault walk.Memory = Memory

abbrev pub schedule_fault : ScheduleFault → Fault
schedule_fault (schedule.Form line) = Refused (Schedule line)
schedule_fault schedule.Memory = Memory
