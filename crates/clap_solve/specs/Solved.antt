-- The results of a search for a schedule of a log.
use Rattle.std.specs.Prelude.{◌≡◌, ℕ, ◌≤◌, List}
use Rattle.run_log.specs.tc_base.Buffers.{BufferOps}
use Rattle.run_log.specs.Logs.{Log}
use Rattle.schedule_file.specs.declared.schedule.Schedule.{Schedule}
use Rattle.schedule_file.specs.tc_limits.declared.limits.TheConstants.{EVENTS, OPERATORS}
use Rattle.run_log.specs.memory_models.declared.model.Model.{Model}
use Rattle.run_log.specs.tc_base.declared.moves.Move.{Move}
use Rattle.tc_code.specs.Code.{Code}
use Rattle.tc_code.specs.Run.{Reproduces}
use Rattle.store_buffers.specs.Pending.{Binding}
use Rattle.path_walk.specs.Fits.{Fits}
use Rattle.path_walk.specs.Paths.{paths_of}
use Rattle.refute_check.specs.Refutations.{IsClosed}
use Rattle.cdcl_core.specs.Solving.{Solves}
use Rattle.cdcl_core.specs.declared.answer.Answer.{Answer}
use Rattle.cdcl_core.specs.declared.answer.Answer.TheVariants.{Found, Impossible, Spent}
use Rattle.clap_system.specs.Faults.{IsShallow}
use Rattle.clap_solve.specs.Clauses.{clauses_of}

-- a log fits the code, and both it and its paths are within the limits
pub record IsWithin (code : Code) (log : Log) : Type 0 where
  pub shallow : IsShallow log
  pub fits : Fits code log
  pub events : (paths_of code log).events ≤ EVENTS
  pub operators : (paths_of code log).operators ≤ OPERATORS

module _ {B : Type 0} (ops : BufferOps B) where
  -- no moves reproduce the log
  abbrev pub IsImpossible : Code → Log → Type 0
  IsImpossible code log = (moves : List Move) → Reproduces ops code log moves → ⊥

  module _ (model : Model) (bound : Binding) (code : Code) (log : Log) (budget : ℕ) where
    -- a schedule of the model reproduces the log; or a closed derivation shows that no moves do; or
    -- an open, fresh derivation deletes few clauses and adds as many as the budget says, none of
    -- them empty
    abbrev pub IsAnswer : Answer Schedule → Type 0
    IsAnswer (Found schedule) =
        (schedule.model ≡ model) × Reproduces ops code log schedule.moves.items
    IsAnswer (Impossible lines) =
        IsClosed (clauses_of ops.buffered bound code log) lines × IsImpossible code log
    IsAnswer (Spent lines) =
        Solves (clauses_of ops.buffered bound code log) budget (Spent lines)

    -- the answer is right, and the log is within the limits
    pub record IsSolved (answer : Answer Schedule) : Type 0 where
      pub within : IsWithin code log
      pub is : IsAnswer answer
