-- Limits.
use Rattle.std.specs.Prelude.{ℕ, codes}
use Rattle.tc_limits.specs.declared.limits.TheConstants as limits
use Rattle.command_frame.specs.Inputs.{Limit}
use Rattle.clap_debug_show_cli.specs.declared.limits.What.{What}
use Rattle.clap_debug_show_cli.specs.declared.limits.What.TheVariants.{LogBytes, Threads}

-- the limit of a program
abbrev pub program_limit : Limit
program_limit = record { kind = codes "program"; most = limits.PROGRAM_BYTES }

-- the limit of a second file
abbrev pub file_limit : Limit
file_limit = record { kind = codes "schedule"; most = limits.SCHEDULE_BYTES }

-- the limits of a log
abbrev pub limit_of : What → ℕ
limit_of LogBytes = limits.LOG_BYTES
limit_of Threads = limits.THREADS
