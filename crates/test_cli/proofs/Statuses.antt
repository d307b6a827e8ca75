-- No outcome has the status of a fault.
use Rattle.clap_debug_cli.specs.clap_solve.schedule_file.declared.schedule.Schedule.{Schedule}
use Rattle.std.proofs.Common.{ℕ, Result, Ok, Err, Bool, true, false}
use Rattle.std.specs.Prelude.{if◌then◌else◌}
use Rattle.clap_debug_cli.specs.clap_solve.cdcl_core.declared.answer.Answer.{Answer}
use Rattle.clap_debug_cli.specs.clap_solve.cdcl_core.declared.answer.Answer.TheVariants as answer
use Rattle.clap_debug_cli.specs.least_switch.declared.answer.Least.{Least}
use Rattle.clap_debug_cli.specs.least_switch.declared.answer.Least.TheVariants as least
use Rattle.clap_debug_cli.specs.schedule_replay.declared.verdict.Verdict.{Verdict as Replayed}
use Rattle.clap_debug_cli.specs.schedule_replay.declared.verdict.Verdict.TheVariants as replayed
use Rattle.clap_debug_cli.specs.command_frame.declared.status.Status.{Status}
use Rattle.clap_debug_cli.specs.command_frame.declared.status.Status.TheVariants.{Done, Open}
use Rattle.clap_debug_cli.specs.command_inputs.Outcomes.{outcome_status}
use Rattle.clap_debug_cli.specs.command_inputs.declared.refusal.Refusal.{Refusal}
use Rattle.clap_debug_cli.specs.command_inputs.declared.refusal.Refusal.TheVariants as refusal
use Rattle.clap_debug_cli.specs.refutation_verdicts.Verdicts.{verdict_status}
use Rattle.clap_debug_cli.specs.refutation_verdicts.declared.verdict.Verdict.{Verdict}
use Rattle.clap_debug_cli.specs.refutation_verdicts.declared.verdict.Verdict.TheVariants as verdict
use Rattle.clap_debug_cli.specs.import_command.Lines.{imported_said}
use Rattle.clap_debug_cli.specs.import_command.declared.imported.Imported.{Imported}
use Rattle.clap_debug_cli.specs.import_command.declared.imported.Imported.TheVariants as imported
use Rattle.clap_debug_cli.specs.least_command.Meanings.{least_said}
use Rattle.clap_debug_cli.specs.record_command.Lines.{ending_said, ran_said}
use Rattle.clap_debug_cli.specs.record_command.declared.ending.Ending.{Ending}
use Rattle.clap_debug_cli.specs.record_command.declared.ending.Ending.TheVariants as ending
use Rattle.clap_debug_cli.specs.record_command.declared.ending.Ran.{Ran}
use Rattle.clap_debug_cli.specs.record_command.declared.ending.Ran.TheVariants as ran
use Rattle.clap_debug_cli.specs.replay_command.Lines.{verdict_said}
use Rattle.clap_debug_cli.specs.solve_command.Meanings.{answer_said}
use Rattle.test_cli.proofs.Surely.{IsSound}

pub sound_outcome : {R : Type 0} (status_of : R → Status) → ((x : R) → IsSound (status_of x)) → (x : Result R Refusal) → IsSound (outcome_status status_of x)
sound_outcome status_of sound (Ok x) = sound x
sound_outcome status_of sound (Err (refusal.Program _)) = tt
sound_outcome status_of sound (Err (refusal.Log _)) = tt
sound_outcome status_of sound (Err (refusal.LogOver _ _)) = tt
sound_outcome status_of sound (Err (refusal.Schedule _)) = tt
sound_outcome status_of sound (Err (refusal.Refutation _)) = tt
sound_outcome status_of sound (Err (refusal.Answer _)) = tt

pub sound_replayed : (v : Replayed) → IsSound (verdict_said v).0
sound_replayed replayed.Reproduces = tt
sound_replayed (replayed.Stops _ _) = tt
sound_replayed replayed.NoFailure = tt
sound_replayed replayed.NotStuck = tt
sound_replayed (replayed.OtherFailure _) = tt
sound_replayed (replayed.OtherPath _) = tt

sound_ending : (e : Ending) → IsSound (ending_said e).0
sound_ending ending.Finished = tt
sound_ending (ending.StepLimit _) = tt
sound_ending (ending.Over _) = tt

pub sound_ran : (x : Ran) → IsSound (ran_said x).0
sound_ran (ran.Logged _ _) = tt
sound_ran (ran.Unlogged e) = sound_ending e

pub sound_answer : (budget : ℕ) (x : Answer Schedule) → IsSound (answer_said budget x).0
sound_answer budget (answer.Found _) = tt
sound_answer budget (answer.Impossible _) = tt
sound_answer budget (answer.Spent _) = tt

pub sound_least : (budget : ℕ) (x : Least) → IsSound (least_said budget x).0
sound_least budget (least.Found _ _ _) = tt
sound_least budget (least.Impossible _) = tt
sound_least budget (least.Spent _) = tt
sound_least budget (least.SpentAt _ _ _) = tt

pub sound_verdict : {A : Type 0} (v : Verdict A) → IsSound (verdict_status v)
sound_verdict (verdict.Closed _) = tt
sound_verdict verdict.Open = tt
sound_verdict (verdict.LineRefused _) = tt

pub sound_imported : (x : Imported) → IsSound (imported_said x).0
sound_imported (imported.Found _ _) = tt
sound_imported (imported.False _) = tt

pub sound_work : (spent : Bool) → IsSound (if spent then Open else Done)
sound_work true = tt
sound_work false = tt
