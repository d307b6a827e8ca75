-- From a run of the command that words ask for to its answers to known files.
use Rattle.std.proofs.Common.{ℕ, Option, Some, None, IfSome}
use Rattle.tc_io.specs.Outside.{ShelfTells, SinkTells}
use Rattle.command_frame.specs.End.{End}
use Rattle.command_frame.specs.Inputs.{texts_under}
use Rattle.command_frame.specs.Meaning.{Meaning}
use Rattle.command_frame.specs.Run.{Runs, RunsOver}
use Rattle.command_frame.proofs.AllRuns.{every_run_over, if_told}
use Rattle.check_command.specs.Answers.{CheckAnswers}
use Rattle.check_command.proofs.ByStatus.{check_answers}
use Rattle.cnf_command.specs.Answers.{CnfAnswers}
use Rattle.cnf_command.proofs.Answered.{cnf_answers}
use Rattle.import_command.specs.Answers.{ImportAnswers}
use Rattle.import_command.proofs.Answered.{import_answers}
use Rattle.least_command.specs.Answers.{LeastAnswers}
use Rattle.least_command.proofs.Answered.{least_answers}
use Rattle.list_command.specs.Listing.{list_of}
use Rattle.list_command.proofs.ByProgram.{by_files as list_answers}
use Rattle.migrate_command.proofs.ByStatus.{by_files as migrate_answers}
use Rattle.record_command.proofs.ByStatus.{by_files as record_answers}
use Rattle.replay_command.specs.Meanings.{replay_of}
use Rattle.replay_command.proofs.ByFiles.{by_files as replay_answers}
use Rattle.solve_command.specs.Answers.{SolveAnswers}
use Rattle.solve_command.proofs.Answered.{solve_answers}
use Rattle.why_command.specs.Answers.{WhyAnswers}
use Rattle.why_command.proofs.ByStatus.{why_answers}
use Rattle.workload_command.proofs.ByStatus.{by_files as workload_answers}
use Rattle.clap_debug_words.specs.Calls.{Called, Lists, Replays, Records, Migrates, Solves, Checks, Workloads, Exports, Imports, Explains}
use Rattle.clap_debug_cli.specs.Call.{Answers, Does, RunsCall}
use Rattle.clap_debug_cli.specs.Requests.{asked, imported, migrated, minimized, recorded, refuted, solved, worked}

module _ (old new : ShelfTells) (status : ℕ) (before after : SinkTells) where
  abbrev e : End
  e = record { status = status; held = new.held; before = before; after = after }

  -- the answers of a call, if the shelf tells its files
  abbrev Told : Called → Type 0
  Told call = IfSome old.held (λ files. Answers call files e)

  over : {A : Type 0} (m : Meaning A) → Runs m old new status before after
      → IfSome old.held (λ files. RunsOver m (texts_under files m.inputs) status before after)
  over m runs = every_run_over m old new runs.answer.0 status before after runs.answer.1 runs.answer.2

  told_call : (call : Called) → RunsCall call old new status before after → Told call
  told_call (Lists program) runs = list_answers old.held program status before after (over (list_of program) runs)
  told_call (Replays program log schedule) runs =
      replay_answers old.held program log schedule status before after (over (replay_of program log schedule) runs)
  told_call (Records program log model seed steps) runs = record_answers (recorded program log model seed steps) old new status before after runs
  told_call (Migrates program log out) runs = migrate_answers (migrated program log out) old new status before after runs
  told_call (Solves program log out model budget None) runs =
      if_told old.held (λ files. SolveAnswers (solved program log out model budget) files e) (λ files told. solve_answers (solved program log out model budget) files old new status before after told runs)
  told_call (Solves program log out model budget (Some refutation)) runs =
      if_told old.held (λ files. LeastAnswers (minimized (solved program log out model budget) refutation) files e) (λ files told. least_answers (minimized (solved program log out model budget) refutation) files old new status before after told runs)
  told_call (Checks program log refutation) runs =
      if_told old.held (λ files. CheckAnswers (refuted program log refutation) files e) (λ files told. check_answers (refuted program log refutation) files old new status before after told runs)
  told_call (Workloads workers seed) runs = workload_answers (worked workers seed) old new status before after runs
  told_call (Exports program log out model) runs =
      if_told old.held (λ files. CnfAnswers (asked program log out model) files e) (λ files told. cnf_answers (asked program log out model) files old new status before after told runs)
  told_call (Imports program log answer out model) runs =
      if_told old.held (λ files. ImportAnswers (imported program log answer out model) files e) (λ files told. import_answers (imported program log answer out model) files old new status before after told runs)
  told_call (Explains program log refutation) runs =
      if_told old.held (λ files. WhyAnswers (refuted program log refutation) files e) (λ files told. why_answers (refuted program log refutation) files old new status before after told runs)

  pub told : (heard : Option Called) → Does heard old new status before after → IfSome heard Told
  told (Some call) does = told_call call does
  told None does = tt
