-- Logs migrated to format 2, and why a log isn't.
use Rattle.std.specs.Prelude.{◌≡◌, ℕ, List, length, nat_lt, Option, Some, None, option_map, if◌then◌else◌}
use Rattle.kept_logs.specs.Digests.{with_digest}
use Rattle.kept_logs.specs.path_log.Texts.{IsLog, IsOfOther}
use Rattle.path_walk.specs.Fits.{Fits, IsFirst}
use Rattle.run_log.specs.Logs.{Log as RunLog, first_deeper}
use Rattle.command_inputs.specs.Forms.{IsUnread, Pair}
use Rattle.command_inputs.specs.Limits.{limit_of}
use Rattle.command_inputs.specs.declared.limits.LogPart.TheVariants.{Threads, Depth}
use Rattle.command_inputs.specs.declared.refusal.LogRefusal.TheVariants.{OtherProgram, Unfit}
use Rattle.command_inputs.specs.declared.refusal.Refusal.{Refusal}
use Rattle.command_inputs.specs.declared.refusal.Refusal.TheVariants.{Log, LogOver}

-- the limit that a log exceeds: that on threads, or else that on the depth of names
abbrev pub excess_of : RunLog → Option Refusal
excess_of log = if nat_lt (limit_of Threads) (length log.threads)
    then Some (LogOver Threads (length log.threads))
    else option_map (λ depth. LogOver Depth depth) (first_deeper (limit_of Depth) log.threads)

-- the log exceeds this limit
abbrev pub IsExcess : RunLog → Refusal → Type 0
IsExcess log (LogOver part number) = excess_of log ≡ Some (LogOver part number)
IsExcess log _ = ⊥

-- a log that isn't of another program, and fits its program within the limits, has this text, with
-- the digest of the program
pub record IsMigrated (program log text : List ℕ) : Type 0 where
  pub pair : Pair program log
  pub own : IsOfOther program pair.run → ⊥
  pub within : excess_of pair.run.log ≡ None
  pub fits : Fits pair.code pair.run.log
  pub is_text : IsLog text (with_digest program pair.run.log)

-- why a log isn't migrated: the first test that fails
abbrev pub IsUnmigrated : (program log : List ℕ) → Refusal → Type 0
IsUnmigrated program log (Log OtherProgram) = (p : Pair program log) × IsOfOther program p.run
IsUnmigrated program log (LogOver part number) =
    (p : Pair program log) × (IsOfOther program p.run → ⊥)
    × (excess_of p.run.log ≡ Some (LogOver part number))
IsUnmigrated program log (Log (Unfit name misfit)) =
    (p : Pair program log) × (IsOfOther program p.run → ⊥)
    × (excess_of p.run.log ≡ None) × IsFirst p.code p.run.log name misfit
IsUnmigrated program log r = IsUnread program log r
