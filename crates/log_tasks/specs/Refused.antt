-- Why a program and a log aren't searched.
use Rattle.std.specs.Prelude.{◌≡◌, ℕ, ◌<◌, List}
use Rattle.clap_system.specs.Faults.{IsOver, IsShallow, limit_of}
use Rattle.clap_system.specs.declared.fault.Which.{Which}
use Rattle.clap_system.specs.declared.fault.Which.TheVariants as which
use Rattle.command_inputs.specs.path_log.Texts.{IsOfOther}
use Rattle.clap_system.specs.path_walk.Fits.{IsFirst}
use Rattle.run_log.specs.Logs.{Log as RunLog}
use Rattle.tc_code.specs.Code.{Code}
use Rattle.command_inputs.specs.Forms.{IsUnread}
use Rattle.command_inputs.specs.declared.limits.LogPart.{LogPart}
use Rattle.command_inputs.specs.declared.limits.LogPart.TheVariants as part
use Rattle.command_inputs.specs.declared.refusal.LogRefusal.TheVariants.{Form, OtherProgram, Unfit}
use Rattle.command_inputs.specs.declared.refusal.Refusal.{Refusal}
use Rattle.command_inputs.specs.declared.refusal.Refusal.TheVariants.{Program, Log, LogOver}
use Rattle.log_tasks.specs.Tasks.{Pair}

-- the part of a log that may pass a limit
abbrev pub part_of : Which → LogPart
part_of which.Threads = part.Threads
part_of which.Depth = part.Depth
part_of which.Events = part.Events
part_of which.Operators = part.Operators

-- why the log of a code has no clauses: it doesn't fit the code, or passes a limit
abbrev pub HasNoClauses : Code → RunLog → Refusal → Type 0
HasNoClauses code log (Log (Unfit name misfit)) = IsShallow log × IsFirst code log name misfit
HasNoClauses code log (LogOver over number) =
    (w : Which) × (over ≡ part_of w) × (limit_of w < number) × IsOver code log w number
HasNoClauses code log _ = ⊥

-- why a program and a log aren't searched: the first test that fails
abbrev pub IsUnsearched : (program log : List ℕ) → Refusal → Type 0
IsUnsearched program log (Program fault) = IsUnread program log (Program fault)
IsUnsearched program log (Log (Form offset)) = IsUnread program log (Log (Form offset))
IsUnsearched program log (Log OtherProgram) = (p : Pair program log) × IsOfOther program p.run
IsUnsearched program log r =
    (p : Pair program log) × (IsOfOther program p.run → ⊥) × HasNoClauses p.code p.run.log r
