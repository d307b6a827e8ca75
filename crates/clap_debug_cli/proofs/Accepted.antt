-- A schedule that reproduces a log is accepted.
use Rattle.std.proofs.Common.{◌≤◌, ℕ, List, length, subst, sym, Option}
use Rattle.cnf_command.specs.clap_solve.Clauses.{bound_of}
use Rattle.replay_command.specs.memory_models.declared.model.Model.{Model}
use Rattle.replay_command.specs.Causes.{IsReplayed}
use Rattle.schedule_length.specs.Lengths.{IsSmall}
use Rattle.schedule_length.proofs.Laws.{short_enough, steps_of_text}
use Rattle.replay_command.specs.schedule_replay.declared.verdict.Verdict.TheVariants as verdict
use Rattle.replay_command.specs.store_buffers.Buffers.{buffer_of}
use Rattle.record_command.specs.tc_base.declared.moves.Move.{Move}
use Rattle.migrate_command.specs.tc_limits.declared.limits.TheConstants.{SCHEDULE_BYTES}
use Rattle.list_command.specs.command_inputs.Forms.{IsSchedule}
use Rattle.cnf_command.specs.log_tasks.Tasks.{Reproduces, Task, model_of}
use Rattle.check_command.proofs.path_log.Logs.{has_text}
use Rattle.check_command.proofs.clap_solve.Models.{model_laws}
use Rattle.check_command.proofs.tc_compile.Lawful.{code_is_lawful}

pub schedule_accepted : {program log : List ℕ} (task : Task program log) (asked : Option Model) (moves : List Move) (text : List ℕ)
    → Reproduces asked task.pair moves → IsSchedule text (record { model = model_of asked task.pair; moves = moves })
    → (length text ≤ SCHEDULE_BYTES) × IsReplayed program log text verdict.Reproduces
schedule_accepted {program} {log} task asked moves text r is =
    let m = model_of asked task.pair in
    let code = task.pair.code in
    let run = task.pair.run in
    let small : IsSmall code run.log = record {
      is_log = (has_text task.pair.logs).is_log;
      threads = task.within.shallow.threads;
      steps = steps_of_text run.log (has_text task.pair.logs).is_of_format;
      events = task.within.events;
    } in (
      subst (λ bytes. length bytes ≤ SCHEDULE_BYTES) (sym is.text)
          (short_enough (buffer_of m) m (bound_of m) code run.log m moves (model_laws m) (code_is_lawful program code task.pair.programs) small is.have_text r),
      record {
        files = record {
          pair = task.pair;
          plan = record { model = m; moves = moves };
          schedules = is;
        };
        own = task.own;
        verdict = r;
      },
    )
