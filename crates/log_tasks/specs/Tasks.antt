-- Programs and their logs, and the memory model that is meant.
use Rattle.std.specs.Prelude.{ℕ, List, Option, unwrap_or}
use Rattle.clap_solve.specs.Clauses.{model_clauses}
use Rattle.clap_solve.specs.Solved.{IsWithin}
use Rattle.refute_check.specs.cnf_core.Clauses.{Formula}
use Rattle.run_log.specs.memory_models.declared.model.Model.{Model}
use Rattle.command_inputs.specs.path_log.Texts.{IsOfOther}
pub use Rattle.command_inputs.specs.Forms.{Pair}
use Rattle.clap_system.specs.store_buffers.Buffers.{buffer_of}
use Rattle.run_log.specs.tc_base.declared.moves.Move.{Move}
use Rattle.tc_code.specs.Run.{Reproduces as ReproducesIn}

-- the log isn't of another program, and both are within the limits
pub record Task (program log : List ℕ) : Type 0 where
  pub pair : Pair program log
  pub own : IsOfOther program pair.run → ⊥
  pub within : IsWithin pair.code pair.run.log

module _ (asked : Option Model) {program log : List ℕ} (pair : Pair program log) where
  -- the memory model that is meant: the log's if none is asked for
  abbrev pub model_of : Model
  model_of = unwrap_or asked pair.run.log.model

  -- under it these moves take every thread along its logged path to the logged end
  abbrev pub Reproduces : List Move → Type 0
  Reproduces moves = ReproducesIn (buffer_of model_of) pair.code pair.run.log moves

  -- the clauses of the log under it
  abbrev pub clauses_of : Formula
  clauses_of = model_clauses model_of pair.code pair.run.log
