-- What `record` runs, and how the run ends.
use Rattle.std.specs.Prelude.{◌≡◌, ℕ, List, length, Some}
use Rattle.memory_models.specs.declared.model.Model.{Model}
use Rattle.store_buffers.specs.Buffers.{BufferOf, buffer_of}
use Rattle.tc_code.specs.Code.{Code}
use Rattle.tc_record.specs.Failing.{failing_line}
use Rattle.tc_record.specs.Seeded.{Ended, seeded_run}
use Rattle.tc_record.specs.declared.end.End.TheVariants as end
use Rattle.record_command.specs.declared.ending.Ending.{Ending}
use Rattle.record_command.specs.declared.ending.Ending.TheVariants.{Finished, StepLimit, Over}
use Rattle.record_command.specs.declared.ending.Failure.{Failure}
use Rattle.record_command.specs.declared.ending.Outcome.{Outcome}
use Rattle.record_command.specs.declared.ending.Outcome.TheVariants.{Failed, Deadlock}
use Rattle.record_command.specs.declared.command.Record.{Record as RawRecord}

-- `record PROGRAM LOG [--model MODEL] [--seed N] [--steps N]`: its files, by name, and its options
pub record Record : Type 0 where
  pub program : List ℕ
  pub log : List ℕ
  pub model : Model
  pub seed : ℕ
  pub steps : ℕ

abbrev pub plain_record : RawRecord → Record
plain_record call = record {
  program = call.program.name.now;
  log = call.log.now;
  model = call.model;
  seed = call.seed;
  steps = call.steps;
}

-- the run of a code under that model, by moves chosen with that seed
abbrev pub run_of : (call : Record) → Code → Ended (BufferOf call.model)
run_of call code = seeded_run (buffer_of call.model) code call.seed call.steps

-- The run failed: the thread, the line of its failing instruction, and the number of moves.
pub record HasFailed {B : Type 0} (code : Code) (run : Ended B) (f : Failure) : Type 0 where
  pub ended : run.end ≡ end.Failed
  pub name : run.state.failed ≡ Some f.name
  pub line : failing_line code run.state ≡ Some f.line
  pub moves : f.moves ≡ length run.moves

-- the run ended in a way that its log records
abbrev pub HasOutcome : {B : Type 0} → Code → Ended B → Outcome → Type 0
HasOutcome code run (Failed f) = HasFailed code run f
HasOutcome code run (Deadlock moves) = (run.end ≡ end.Deadlock) × (moves ≡ length run.moves)

-- the run ended in a way without a log
abbrev pub HasEnded : {B : Type 0} → Ended B → Ending → Type 0
HasEnded run Finished = run.end ≡ end.Finished
HasEnded run (StepLimit moves) = (run.end ≡ end.StepLimit) × (moves ≡ length run.moves)
HasEnded run (Over which) = run.end ≡ end.Over which
