-- The meaning of a closed refutation of a log.
use Rattle.std.proofs.Common.{ℕ, List, Option, Some, None}
use Rattle.refutation_input.proofs.clap_solve.Meaning.{closed_is_impossible}
use Rattle.refutation_input.proofs.clap_solve.Models.{model_laws}
use Rattle.refutation_input.specs.clap_solve.Clauses.{bound_of}
use Rattle.refutation_input.specs.memory_models.declared.model.Model.{Model}
use Rattle.refutation_verdicts.specs.refute_check.Refutations.{IsClosed}
use Rattle.refutation_input.specs.store_buffers.Buffers.{buffer_of}
use Rattle.refutation_verdicts.proofs.switch_clauses.Meaning.{closed_is_more}
use Rattle.refutation_verdicts.specs.switch_runs.Switches.{switches}
use Rattle.command_inputs.specs.tc_base.declared.moves.Move.{Move}
use Rattle.command_inputs.specs.tc_code.Code.{Code}
use Rattle.command_inputs.proofs.path_log.Logs.{has_text}
use Rattle.command_inputs.proofs.tc_compile.Lawful.{code_is_lawful}
use Rattle.refutation_verdicts.specs.log_tasks.Tasks.{Reproduces, Task}
use Rattle.refutation_verdicts.specs.Refutations.{IsMoreThan, Refutation, clauses_under, clauses_up_to, switches_of}

module _ {program log bytes : List ℕ} (t : Task program log) (r : Refutation bytes) where
  abbrev model : Model
  model = r.head.model

  abbrev code : Code
  code = t.pair.code

  -- moves that reproduce the log have more switches than this, or there are none
  pub excluded_up_to : (most : Option ℕ) → IsClosed (clauses_up_to most model code t.pair.run.log) r.lines
      → (moves : List Move) → Reproduces (Some model) t.pair moves → IsMoreThan most (switches (buffer_of model) code moves)
  excluded_up_to None closed moves again =
      closed_is_impossible (buffer_of model) model (bound_of model) code t.pair.run.log (model_laws model) (code_is_lawful program code t.pair.programs)
      (has_text t.pair.logs).is_log t.within r.lines closed moves again
  excluded_up_to (Some most) closed moves again =
      closed_is_more (buffer_of model) model (bound_of model) code t.pair.run.log most (model_laws model) (code_is_lawful program code t.pair.programs)
      (has_text t.pair.logs).is_log t.within r.lines moves closed again

  pub excluded : IsClosed (clauses_under t r) r.lines → (moves : List Move) → Reproduces (Some model) t.pair moves
      → IsMoreThan r.head.switches (switches_of t r moves)
  excluded closed moves again = excluded_up_to r.head.switches closed moves again
