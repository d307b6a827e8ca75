-- Without memory for the words, the command that they ask for has run as one without memory.
use Rattle.std.proofs.Common.{inl, inr, refl, ℕ, Option, Some, None}
use Rattle.tc_io.specs.Outside.{ShelfTells, SinkTells}
use Rattle.command_frame.specs.Answers.{NoMemory, SaysNoMemory}
use Rattle.command_frame.specs.Meaning.{Meaning}
use Rattle.command_frame.specs.Run.{Runs}
use Rattle.command_frame.proofs.AllRuns.{every_run}
use Rattle.check_command.specs.Meanings.{check_of}
use Rattle.cnf_command.specs.Meanings.{cnf_of}
use Rattle.import_command.specs.Meanings.{import_of}
use Rattle.least_command.specs.Meanings.{least_of}
use Rattle.list_command.specs.Listing.{list_of}
use Rattle.migrate_command.specs.Meanings.{migrate_of}
use Rattle.record_command.specs.Meanings.{record_of}
use Rattle.replay_command.specs.Meanings.{replay_of}
use Rattle.solve_command.specs.Meanings.{solve_of}
use Rattle.why_command.specs.Meanings.{why_of}
use Rattle.workload_command.specs.Meanings.{workload_of}
use Rattle.clap_debug_words.specs.Calls.{Called, Lists, Replays, Records, Migrates, Solves, Checks, Workloads, Exports, Imports, Explains}
use Rattle.clap_debug_cli.specs.Call.{Does, RunsCall}
use Rattle.clap_debug_cli.specs.Requests.{asked, imported, migrated, minimized, recorded, refuted, solved, worked}

module _ (old : ShelfTells) (status : ℕ) (before after : SinkTells) (says : SaysNoMemory status before after) where
  without_memory : {A : Type 0} (m : Meaning A) → Runs m old old status before after
  without_memory m = every_run m old old NoMemory status before after (refl, inl refl) (inr (inr says))

  unheard_call : (call : Called) → RunsCall call old old status before after
  unheard_call (Lists program) = without_memory (list_of program)
  unheard_call (Replays program log schedule) = without_memory (replay_of program log schedule)
  unheard_call (Records program log model seed steps) = without_memory (record_of (recorded program log model seed steps))
  unheard_call (Migrates program log out) = without_memory (migrate_of (migrated program log out))
  unheard_call (Solves program log out model budget None) = without_memory (solve_of (solved program log out model budget))
  unheard_call (Solves program log out model budget (Some refutation)) = without_memory (least_of (minimized (solved program log out model budget) refutation))
  unheard_call (Checks program log refutation) = without_memory (check_of (refuted program log refutation))
  unheard_call (Workloads workers seed) = without_memory (workload_of (worked workers seed))
  unheard_call (Exports program log out model) = without_memory (cnf_of (asked program log out model))
  unheard_call (Imports program log answer out model) = without_memory (import_of (imported program log answer out model))
  unheard_call (Explains program log refutation) = without_memory (why_of (refuted program log refutation))

  pub unheard : (heard : Option Called) → Does heard old old status before after
  unheard (Some call) = unheard_call call
  unheard None = (refl, inr (inr says))
