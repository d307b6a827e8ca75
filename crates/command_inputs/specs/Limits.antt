-- The limits of the inputs.
use Rattle.std.specs.Prelude.{ℕ, List, codes}
use Rattle.tc_limits.specs.declared.limits.TheConstants as limits
use Rattle.command_frame.specs.Inputs.{Limit}
use Rattle.command_inputs.specs.declared.limits.LogPart.{LogPart}
use Rattle.command_inputs.specs.declared.limits.LogPart.TheVariants.{Threads, Depth, Events, Operators}

abbrev pub program_limit : Limit
program_limit = record { kind = codes "program"; most = limits.PROGRAM_BYTES }

abbrev pub log_limit : Limit
log_limit = record { kind = codes "log"; most = limits.LOG_BYTES }

abbrev pub schedule_limit : Limit
schedule_limit = record { kind = codes "schedule"; most = limits.SCHEDULE_BYTES }

-- how many of this a log may have
abbrev pub limit_of : LogPart → ℕ
limit_of Threads = limits.THREADS
limit_of Depth = limits.DEPTH
limit_of Events = limits.EVENTS
limit_of Operators = limits.OPERATORS

abbrev pub part_text : LogPart → List ℕ
part_text Threads = codes "threads"
part_text Depth = codes "depth"
part_text Events = codes "events"
part_text Operators = codes "operators"
