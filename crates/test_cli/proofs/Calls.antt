-- The calls of the program over a shelf and a sink whose counts of faults stay 0.
use Rattle.std.proofs.Common.{◌≡◌, ◌≤◌, arith, inl, inr, ℕ, Option, Some, None}
use Rattle.std.specs.Option.{IsSomeAnd}
use Rattle.tc_io.specs.Outside.{ShelfTells, SinkTells}
use Rattle.clap_debug_cli.specs.command_frame.Answers.{SaysLine}
use Rattle.clap_debug_cli.specs.command_frame.Inputs.{no_limit}
use Rattle.clap_debug_cli.specs.command_frame.Meaning.{Meaning}
use Rattle.clap_debug_cli.specs.command_frame.Run.{Runs}
use Rattle.clap_debug_cli.specs.command_frame.declared.status.Status.TheVariants.{Done, Usage}
use Rattle.clap_debug_cli.specs.check_command.Meanings.{check_of}
use Rattle.clap_debug_cli.specs.refutation_verdicts.Verdicts.{verdict_status}
use Rattle.clap_debug_cli.specs.cnf_command.Meanings.{cnf_of}
use Rattle.clap_debug_cli.specs.import_command.Lines.{imported_said}
use Rattle.clap_debug_cli.specs.import_command.Meanings.{import_of}
use Rattle.clap_debug_cli.specs.least_command.Meanings.{least_of, least_said}
use Rattle.clap_debug_cli.specs.list_command.Listing.{list_of}
use Rattle.clap_debug_cli.specs.migrate_command.Meanings.{migrate_of}
use Rattle.clap_debug_cli.specs.record_command.Lines.{ran_said}
use Rattle.clap_debug_cli.specs.record_command.Meanings.{record_of}
use Rattle.clap_debug_cli.specs.replay_command.Lines.{verdict_said}
use Rattle.clap_debug_cli.specs.replay_command.Meanings.{replay_of}
use Rattle.clap_debug_cli.specs.solve_command.Meanings.{answer_said, solve_of}
use Rattle.clap_debug_cli.specs.why_command.Meanings.{why_of}
use Rattle.clap_debug_cli.specs.workload_command.Lines.{has_spent, work_status}
use Rattle.clap_debug_cli.specs.workload_command.Meanings.{workload_of}
use Rattle.clap_debug_cli.specs.clap_debug_words.Calls.{Called, Lists, Replays, Records, Migrates, Solves, Checks, Workloads, Exports, Imports, Explains}
use Rattle.clap_debug_cli.specs.Call.{Does, RunsCall, usage_text}
use Rattle.clap_debug_cli.specs.Requests.{asked, imported, migrated, minimized, recorded, refuted, solved, worked}
use Rattle.test_cli.specs.Reads.{ReadsEntire}
use Rattle.test_cli.proofs.Surely.{HasEntire, IsSound, never_eight, never_fails_to_put, seven_is_entire}
use Rattle.test_cli.proofs.Statuses.{sound_answer, sound_imported, sound_least, sound_outcome, sound_ran, sound_replayed, sound_verdict, sound_work}

module _ (old new : ShelfTells) (number : ℕ) (j k : SinkTells) (quiet : new.faults ≡ 0) (silent : k.faults ≡ 0) where
  -- what holds of a run with this meaning, whose outcomes have sound statuses, holds of a call
  with_meaning : (call : Called) (P : Type 0) → RunsCall call old new number j k
      → ((A : Type 0) (m : Meaning A) → ((x : A) → IsSound (m.status_of x)) → (HasEntire m.inputs → ReadsEntire call) → Runs m old new number j k → P) → P
  with_meaning (Lists program) P runs f = f _ (list_of program) (sound_outcome (λ _. Done) (λ _. tt)) (λ h. h) runs
  with_meaning (Replays program log schedule) P runs f =
      f _ (replay_of program log schedule) (sound_outcome (λ v. (verdict_said v).0) sound_replayed) (λ h. h) runs
  with_meaning (Records program log model seed steps) P runs f = f _ (record_of (recorded program log model seed steps)) (sound_outcome (λ x. (ran_said x).0) sound_ran) (λ h. h) runs
  with_meaning (Migrates program log out) P runs f = f _ (migrate_of (migrated program log out)) (sound_outcome (λ _. Done) (λ _. tt)) (λ h. h) runs
  with_meaning (Solves program log out model budget None) P runs f =
      let call = solved program log out model budget in
      f _ (solve_of call) (sound_outcome (λ x. (answer_said call.budget x.answer).0) (λ x. sound_answer call.budget x.answer)) (λ h. h) runs
  with_meaning (Solves program log out model budget (Some refutation)) P runs f =
      let call = minimized (solved program log out model budget) refutation in
      f _ (least_of call) (sound_outcome (λ x. (least_said call.budget x.least).0) (λ x. sound_least call.budget x.least)) (λ h. h) runs
  with_meaning (Checks program log refutation) P runs f = f _ (check_of (refuted program log refutation)) (sound_outcome verdict_status sound_verdict) (λ h. h) runs
  with_meaning (Workloads workers seed) P runs f = f _ (workload_of (worked workers seed)) (sound_outcome work_status (λ x. sound_work (has_spent x))) (λ h. h) runs
  with_meaning (Exports program log out model) P runs f = f _ (cnf_of (asked program log out model)) (sound_outcome (λ _. Done) (λ _. tt)) (λ h. h) runs
  with_meaning (Imports program log answer out model) P runs f = f _ (import_of (imported program log answer out model)) (sound_outcome (λ x. (imported_said x).0) sound_imported) (λ h. h) runs
  with_meaning (Explains program log refutation) P runs f = f _ (why_of (refuted program log refutation)) (sound_outcome verdict_status sound_verdict) (λ h. tt) runs

  said_usage : number ≡ 8 → SaysLine usage_text Usage number j k → ⊥
  said_usage eight (inl h) = omega (arith, eight, h.0)
  said_usage eight (inr (inl h)) = never_fails_to_put usage_text j k silent h.1
  said_usage eight (inr (inr (inl h))) = omega (arith, eight, h.0)
  said_usage eight (inr (inr (inr h))) = never_fails_to_put _ j k silent h.1

  pub eight_never_comes : (heard : Option Called) → Does heard old new number j k → number ≡ 8 → ⊥
  eight_never_comes (Some call) does eight =
      with_meaning call ⊥ does (λ A m sound entire runs. never_eight m sound old new number j k quiet silent runs eight)
  eight_never_comes None does eight = said_usage eight does.1

  seven_of_usage : number ≡ 7 → SaysLine usage_text Usage number j k → ⊥
  seven_of_usage seven (inl h) = omega (arith, seven, h.0)
  seven_of_usage seven (inr (inl h)) = omega (arith, seven, h.0)
  seven_of_usage seven (inr (inr (inl h))) = omega (arith, seven, h.0)
  seven_of_usage seven (inr (inr (inr h))) = omega (arith, seven, h.0)

  pub seven_reads_entire : (heard : Option Called) → Does heard old new number j k → number ≡ 7
      → IsSomeAnd heard (λ call. ReadsEntire call × (no_limit ≤ new.taken))
  seven_reads_entire (Some call) does seven =
      with_meaning call (ReadsEntire call × (no_limit ≤ new.taken)) does
      (λ A m sound entire runs. let long = seven_is_entire m sound old new number j k quiet silent runs seven in (entire long.0, long.1))
  seven_reads_entire None does seven = absurd (seven_of_usage seven does.1)
