-- Logs of recorded runs, their texts, and the moves that reproduce them.
use Rattle.std.specs.Prelude.{ℕ, ◌≤◌, Bool, true, false, List, length, None}
use Rattle.kept_logs.specs.Digests.{with_digest}
use Rattle.memory_models.specs.declared.model.Model.{Model}
use Rattle.memory_models.specs.declared.model.Model.TheVariants.{Sc, Tso, Pso}
use Rattle.kept_logs.specs.path_log.Texts.{IsLog}
use Rattle.kept_logs.specs.run_log.Logs.{Log}
use Rattle.store_buffers.specs.Buffers.{buffer_of}
use Rattle.tc_code.specs.Code.{Code}
use Rattle.tc_code.specs.Run.{Reproduces}
use Rattle.tc_compile.specs.Programs.{IsCodeOf}
use Rattle.tc_record.specs.Logged.{IsLogOf, most_log_bytes}
use Rattle.tc_record.specs.Seeded.{Ended}
use Rattle.record_command.specs.Runs.{HasOutcome, Record, run_of}
use Rattle.record_command.specs.declared.ending.Outcome.{Outcome}

-- the text of the log of a run, with the program's digest
pub record IsLogText {B : Type 0} (model : Model) (program : List ℕ) (run : Ended B)
    (text : List ℕ) : Type 0 where
  pub log : Log
  pub is : IsLogOf model run.state (record { digest = None; log = log })
  pub is_text : IsLog text (with_digest program log)

-- the run of the program failed or deadlocked so, this is the text of its log, and the run's moves
-- reproduce that log
pub record IsRecorded (call : Record) (program : List ℕ) (o : Outcome)
    (text : List ℕ) : Type 0 where
  pub code : Code
  pub programs : IsCodeOf program code
  pub outcome : HasOutcome code (run_of call code) o
  pub logged : IsLogText call.model program (run_of call code) text
  pub reproduces : Reproduces (buffer_of call.model) code logged.log (run_of call code).moves
  pub short : length text ≤ most_log_bytes

-- whether the second of two memory models allows all that the first does
abbrev pub allows : Model → Model → Bool
allows Sc other = true
allows Tso Sc = false
allows Tso other = true
allows Pso Pso = true
allows Pso other = false
