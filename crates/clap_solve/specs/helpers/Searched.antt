-- The results of a search of a log's clauses.
use Rattle.std.specs.Prelude.{◌≡◌, ◌<◌, ◌≤◌, ℕ, suc, Bool, true, false, IsTrue, List, length}
use Rattle.run_log.specs.tc_base.Buffers.{BufferOps}
use Rattle.run_log.specs.Logs.{Log}
use Rattle.run_log.specs.memory_models.declared.model.Model.{Model}
use Rattle.run_log.specs.tc_base.declared.moves.Move.{Move}
use Rattle.tc_code.specs.Code.{Code}
use Rattle.tc_code.specs.Run.{Reproduces}
use Rattle.store_buffers.specs.Pending.{Binding}
use Rattle.run_log.specs.Logs.{is_log}
use Rattle.path_walk.specs.Fits.{Fits}
use Rattle.path_walk.specs.Paths.{paths_of}
use Rattle.cnf_core.specs.Clauses.{satisfies, value_in}
use Rattle.dimacs_text.specs.Values.{IsFirstFalse}
use Rattle.schedule_file.specs.declared.schedule.Schedule.{Schedule}
use Rattle.clap_solve.specs.Posed.{IsGiven, Posed, posed_of}
use Rattle.clap_solve.specs.declared.imported.Imported.{Imported}
use Rattle.clap_solve.specs.declared.imported.Imported.TheVariants.{Found, False}

module _ (buffered : Bool) (bound : Binding) (code : Code) (p : Posed) where
  -- the parts belong to some log
  pub record IsPosed : Type 0 where
    pub log : Log
    pub given : IsGiven code log
    pub posed : p ≡ posed_of buffered bound code log
    pub variables : p.paths.dead ≡ false → 0 < p.blasted.clauses.vars

  -- and each variable has a value
  pub record IsAssigned (values : List Bool) : Type 0 where
    pub posed : IsPosed
    pub all : p.blasted.clauses.vars ≤ length values

  -- and the values satisfy the clauses
  pub record IsSatisfied (values : List Bool) : Type 0 where
    pub posed : IsPosed
    pub all : p.blasted.clauses.vars ≤ length values
    pub satisfies : IsTrue (satisfies (value_in values) p.blasted.clauses.clauses)

module _ {B : Type 0} (ops : BufferOps B) (code : Code) (p : Posed) where
  -- the moves reproduce each log with these paths
  abbrev pub ReproduceEach : List Move → Type 0
  ReproduceEach moves =
      (log : Log) → is_log log ≡ true → Fits code log → paths_of code log ≡ p.paths
      → Reproduces ops code log moves

  module _ (model : Model) where
    -- a schedule of the model, of such moves
    abbrev pub IsScheduled : Schedule → Type 0
    IsScheduled schedule = (schedule.model ≡ model) × ReproduceEach schedule.moves.items

    -- values that satisfy the clauses give a schedule of such moves; others, the first false clause
    abbrev pub IsImportedOn : List Bool → Imported → Type 0
    IsImportedOn values (Found schedule) =
        IsTrue (satisfies (value_in values) p.blasted.clauses.clauses) × IsScheduled schedule
    IsImportedOn values (False number) =
        (place : ℕ) × (number ≡ suc place)
        × IsFirstFalse (value_in values) p.blasted.clauses.clauses place
