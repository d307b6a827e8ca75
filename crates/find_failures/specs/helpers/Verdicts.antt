-- What is known of one log.
use Rattle.std.specs.Prelude.{ℕ}
use Rattle.tc_base.specs.Buffers.{BufferOps}
use Rattle.run_log.specs.Logs.{Log}
use Rattle.tc_code.specs.Code.{Code}
use Rattle.store_buffers.specs.Pending.{Binding}
use Rattle.clap_solve.specs.Clauses.{clauses_of}
use Rattle.clap_solve.specs.Solved.{IsImpossible, IsWithin}
use Rattle.refute_check.specs.Refutations.{IsClosed}
use Rattle.find_failures.specs.Found.{IsReason}
use Rattle.find_failures.specs.Runs.{IsPossible}
use Rattle.find_failures.specs.declared.verdict.Verdict.{Verdict}
use Rattle.find_failures.specs.declared.verdict.Verdict.TheVariants.{Possible, Impossible, Unfit, Unknown}

module _ {B : Type 0} (ops : BufferOps B) (bound : Binding) (code : Code) (log : Log)
    (budget : ℕ) where
  -- some moves reproduce the log; or a closed derivation shows that none do, or it doesn't fit; or
  -- it isn't known
  abbrev pub IsVerdict : Verdict → Type 0
  IsVerdict Possible = IsPossible ops code log
  IsVerdict (Impossible lines) =
      IsWithin code log × IsClosed (clauses_of ops.buffered bound code log) lines
      × IsImpossible ops code log
  IsVerdict Unfit = IsImpossible ops code log
  IsVerdict (Unknown reason) = IsReason ops bound code budget log reason
