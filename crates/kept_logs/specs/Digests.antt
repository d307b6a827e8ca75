-- Logs with the digest of their program.
use Rattle.std.specs.Prelude.{ℕ, List, Some}
use Rattle.sha2.specs.Sha256.{sha256}
use Rattle.run_log.specs.Logs.{Log, StoredLog}

-- a log with the digest of the program
abbrev pub with_digest : (program : List ℕ) → Log → StoredLog
with_digest program log = record { digest = Some (sha256 program); log = log }
