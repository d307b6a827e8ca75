-- Refutations of a log, and the clauses that they are about.
use Rattle.std.specs.Prelude.{ℕ, ◌<◌, List, Option, Some, None}
use Rattle.switch_clauses.specs.clap_solve.Clauses.{bound_of, model_clauses}
use Rattle.refute_check.specs.cnf_core.Clauses.{Formula}
use Rattle.refute_check.specs.memory_models.declared.model.Model.{Model}
use Rattle.refute_check.specs.declared.head.Head.{Head}
use Rattle.refute_check.specs.declared.line.Line.{Line}
use Rattle.log_tasks.specs.run_log.Logs.{Log}
use Rattle.switch_clauses.specs.store_buffers.Buffers.{buffer_of}
use Rattle.switch_clauses.specs.Clauses.{switch_clauses}
use Rattle.switch_clauses.specs.switch_runs.Switches.{switches}
use Rattle.command_inputs.specs.tc_base.declared.moves.Move.{Move}
use Rattle.log_tasks.specs.tc_code.Code.{Code}
use Rattle.log_tasks.specs.Tasks.{Task}
use Rattle.log_tasks.specs.Texts.{IsRefutation}

-- the names of a program, a log and a refutation
pub record Names : Type 0 where
  pub program : List ℕ
  pub log : List ℕ
  pub refutation : List ℕ

-- a refutation whose text is these bytes; any tool may have made it
pub record Refutation (bytes : List ℕ) : Type 0 where
  pub head : Head
  pub lines : List Line
  pub text : IsRefutation bytes head lines

-- the clauses of a log under a memory model, with at most this many switches if a number is named
abbrev pub clauses_up_to : Option ℕ → Model → Code → Log → Formula
clauses_up_to None model code log = model_clauses model code log
clauses_up_to (Some most) model code log =
    switch_clauses (buffer_of model).buffered (bound_of model) code log most

-- the clauses of a log that a refutation with this header is about
abbrev pub head_clauses : Head → Code → Log → Formula
head_clauses head code log = clauses_up_to head.switches head.model code log

-- more than the number that is named; if none is named, no number is
abbrev pub IsMoreThan : Option ℕ → ℕ → Type 0
IsMoreThan None count = ⊥
IsMoreThan (Some most) count = most < count

module _ {program log bytes : List ℕ} (t : Task program log) (r : Refutation bytes) where
  -- the clauses of the log that the refutation is about
  abbrev pub clauses_under : Formula
  clauses_under = head_clauses r.head t.pair.code t.pair.run.log

  -- the number of context switches of moves under the refutation's memory model
  abbrev pub switches_of : List Move → ℕ
  switches_of moves = switches (buffer_of r.head.model) t.pair.code moves
