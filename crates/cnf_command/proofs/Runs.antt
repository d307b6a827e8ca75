-- From the clauses of a log to their meaning.
use Rattle.std.proofs.Common.{ℕ, List, Option}
use Rattle.std.specs.Prelude.{◌↔◌}
use Rattle.clap_solve.proofs.Meaning.{run_is_said, said_is_run}
use Rattle.clap_solve.proofs.Models.{model_laws}
use Rattle.clap_solve.specs.Clauses.{bound_of}
use Rattle.memory_models.specs.declared.model.Model.{Model}
use Rattle.store_buffers.specs.Buffers.{buffer_of}
use Rattle.run_log.specs.tc_base.declared.moves.Move.{Move}
use Rattle.command_inputs.proofs.path_log.Logs.{has_text}
use Rattle.command_inputs.proofs.tc_compile.Lawful.{code_is_lawful}
use Rattle.log_tasks.specs.Tasks.{Reproduces, Task, clauses_of, model_of}
use Rattle.cnf_command.specs.Answers.{IsSatisfiable}

-- the clauses of a log can be satisfied exactly if some moves reproduce the log
pub are_runs : {program log : List ℕ} (asked : Option Model) (t : Task program log)
    → IsSatisfiable (clauses_of asked t.pair) ↔ ((moves : List Move) × Reproduces asked t.pair moves)
are_runs {program} {log} asked t =
    let m = model_of asked t.pair in
    let lawful = code_is_lawful program t.pair.code t.pair.programs in
    let is = (has_text t.pair.logs).is_log in (
      λ v. said_is_run (buffer_of m) m (bound_of m) t.pair.code t.pair.run.log (model_laws m) lawful is t.within v.0 v.1,
      λ r. run_is_said (buffer_of m) m (bound_of m) t.pair.code t.pair.run.log (model_laws m) lawful is t.within r.0 r.1,
    )
