-- From a run of `record` over known files to its answers.
use Rattle.std.proofs.Common.{◌≡◌, ◌∙◌, ◌⊎◌, ◌≤◌, inl, inr, ap, sym, subst, ℕ, List, length, Some, IfSome}
use Rattle.memory_models.specs.declared.model.Model.{Model}
use Rattle.tc_code.specs.Code.{Code}
use Rattle.tc_compile.specs.Programs.{IsCodeOf}
use Rattle.tc_compile.proofs.OnePrograms.{one_code, one_refusal, refused_no_code}
use Rattle.tc_io.specs.Outside.{Files, ShelfTells, SinkTells, bytes_at}
use Rattle.tc_code.specs.tc_limits.declared.limits.TheConstants.{PROGRAM_BYTES}
use Rattle.tc_record.specs.Seeded.{Ended}
use Rattle.tc_record.specs.declared.end.Which.{Which}
use Rattle.command_inputs.specs.command_ends.Ends.{Declines, HasDeclined}
use Rattle.command_inputs.proofs.command_ends.Ended.{Reports, declines, reported, reported_or_declined, result_at}
use Rattle.command_frame.specs.Answers.{number_of}
use Rattle.command_frame.specs.ByStatus.{IsStatus}
use Rattle.command_frame.specs.End.{End}
use Rattle.command_frame.specs.Run.{Runs}
use Rattle.command_frame.specs.declared.status.Status.TheVariants.{Done, Fails, Open, OverLimit}
use Rattle.command_frame.proofs.AllRuns.{if_told}
use Rattle.command_inputs.specs.declared.refusal.Refusal.{Refusal}
use Rattle.command_inputs.specs.declared.refusal.Refusal.TheVariants.{Program}
use Rattle.record_command.specs.Answers.{LeavesLog, RecordAnswers, TellsEnding}
use Rattle.record_command.specs.Lines.{end_status, ending_said, ran_said}
use Rattle.record_command.specs.Meanings.{ComesTo, IsRanAs, IsRanOf, IsUnread, inputs_of, record_of, report_of}
use Rattle.record_command.specs.Runs.{HasEnded, HasOutcome, Record, run_of}
use Rattle.record_command.specs.declared.ending.Ending.{Ending}
use Rattle.record_command.specs.declared.ending.Ending.TheVariants.{Finished, StepLimit, Over}
use Rattle.record_command.specs.declared.ending.Outcome.{Outcome}
use Rattle.record_command.specs.declared.ending.Outcome.TheVariants.{Failed, Deadlock}
use Rattle.record_command.specs.declared.ending.Ran.{Ran}
use Rattle.record_command.specs.declared.ending.Ran.TheVariants.{Logged, Unlogged}
use Rattle.record_command.proofs.Laws.{recorded_reproduced}

-- the status of what comes of a program is that of its run
module _ {B : Type 0} (model : Model) (program : List ℕ) (code : Code) (run : Ended B) where
  outcome_status : (o : Outcome) → HasOutcome code run o → end_status run.end ≡ Done
  outcome_status (Failed f) h = ap end_status h.ended
  outcome_status (Deadlock n) h = ap end_status h.0

  ended_status : (e : Ending) → HasEnded run e → end_status run.end ≡ (ending_said e).0
  ended_status Finished h = ap end_status h
  ended_status (StepLimit n) h = ap end_status h.0
  ended_status (Over which) h = ap end_status h

  status_in : (x : Ran) → IsRanAs model program code run x → (ran_said x).0 ≡ end_status run.end
  status_in (Logged o text) h = sym (outcome_status o h.0)
  status_in (Unlogged e) h = sym (ended_status e h)

status_of_run : (call : Record) (program : List ℕ) (code : Code) → IsCodeOf program code → (x : Ran) → IsRanOf call program x
    → (ran_said x).0 ≡ end_status (run_of call code).end
status_of_run call program code is x w =
    subst (λ c. (ran_said x).0 ≡ end_status (run_of call c).end) (one_code program w.0 code w.1 is)
    (status_in call.model program w.0 (run_of call w.0) x w.2)

-- a text is refused for one reason, and isn't run then
one_unread : (program : List ℕ) (r q : Refusal) → IsUnread program r → IsUnread program q → r ≡ q
one_unread program (Program r) (Program q) f g = ap (λ x. Program x) (one_refusal program r q f g)
one_unread program (Program r) _ f g = absurd g
one_unread program _ q f g = absurd f

unread_or_coded : (program : List ℕ) (code : Code) → IsCodeOf program code → (r : Refusal) → IsUnread program r → ⊥
unread_or_coded program code is (Program r) f = refused_no_code program r code f is
unread_or_coded program code is _ f = f

module _ (call : Record) (files : Files) (old new : ShelfTells) (number : ℕ) (j k : SinkTells) (told : old.held ≡ Some files)
    (runs : Runs (record_of call) old new number j k) where
  abbrev program : List ℕ
  program = bytes_at files call.program

  abbrev e : End
  e = record { status = number; held = new.held; before = j; after = k }

  abbrev IsReported : Ran → Type 0
  IsReported x = Reports (inputs_of call) (ComesTo call) (report_of call) files e x

  recorded_by : (x : Ran) → (ran_said x).0 ≡ Done → IsReported x → (o : Outcome) × (text : List ℕ) × LeavesLog call files e o text
  recorded_by (Logged o text) is r =
      let w = r.comes in
      (o, text.items, (recorded_reproduced call program text.items w.0 o w.1 w.2.0 w.2.1, (r.held, r.wrote)))
  recorded_by (Unlogged Finished) is r = absurd (let bad : Fails ≡ Done = is in cc)
  recorded_by (Unlogged (StepLimit n)) is r = absurd (let bad : Open ≡ Done = is in cc)
  recorded_by (Unlogged (Over which)) is r = absurd (let bad : OverLimit ≡ Done = is in cc)

  finished_by : (x : Ran) → (ran_said x).0 ≡ Fails → IsReported x → TellsEnding call files e Finished
  finished_by (Unlogged Finished) is r = (r.comes, (r.held, r.wrote))
  finished_by (Logged o text) is r = absurd (let bad : Done ≡ Fails = is in cc)
  finished_by (Unlogged (StepLimit n)) is r = absurd (let bad : Open ≡ Fails = is in cc)
  finished_by (Unlogged (Over which)) is r = absurd (let bad : OverLimit ≡ Fails = is in cc)

  goes_on_by : (x : Ran) → (ran_said x).0 ≡ Open → IsReported x → (moves : ℕ) × TellsEnding call files e (StepLimit moves)
  goes_on_by (Unlogged (StepLimit n)) is r = (n, (r.comes, (r.held, r.wrote)))
  goes_on_by (Logged o text) is r = absurd (let bad : Done ≡ Open = is in cc)
  goes_on_by (Unlogged Finished) is r = absurd (let bad : Fails ≡ Open = is in cc)
  goes_on_by (Unlogged (Over which)) is r = absurd (let bad : OverLimit ≡ Open = is in cc)

  abbrev Others : Type 0
  Others = (number ≡ 0) ⊎ (number ≡ 1) ⊎ (number ≡ 10) ⊎ ((which : Which) × (number ≡ 6) × TellsEnding call files e (Over which))
      ⊎ HasDeclined (inputs_of call) (IsUnread program) files e

  other_run : (x : Ran) → IsReported x → Others
  other_run (Logged o text) r = inl r.status
  other_run (Unlogged Finished) r = inr (inl r.status)
  other_run (Unlogged (StepLimit n)) r = inr (inr (inl r.status))
  other_run (Unlogged (Over which)) r = inr (inr (inr (inl (which, r.status, (r.comes, (r.held, r.wrote))))))

  others_at : Others
  others_at = elim (reported_or_declined (inputs_of call) (ComesTo call) (report_of call) files old new number j k told runs) [
    | inl x ↦ other_run x.0 x.1
    | inr declined ↦ inr (inr (inr (inr declined)))
  ]

  runs_at : (code : Code) → IsCodeOf program code → length program ≤ PROGRAM_BYTES → IsStatus number (number_of (end_status (run_of call code).end))
  runs_at code is short =
      elim (reported (inputs_of call) (ComesTo call) (report_of call) files old new number j k told runs (short, tt) (unread_or_coded program code is)) [
        | inl x ↦ inl (x.1.status ∙ ap number_of (status_of_run call program code is x.0 x.1.comes))
        | inr fault ↦ inr fault
      ]

  declines_at : Declines (inputs_of call) (IsUnread program) files e
  declines_at =
      declines (inputs_of call) (ComesTo call) (report_of call) files old new number j k told runs (one_unread program)
      (λ r x f w. unread_or_coded program w.0 w.1 r f)

  answers : RecordAnswers call files e
  answers = record {
    recorded = λ is.
        let x = result_at (inputs_of call) (ComesTo call) (report_of call) files old new number j k told runs Done tt is in recorded_by x.0 x.1 x.2;
    finished = λ is.
        let x = result_at (inputs_of call) (ComesTo call) (report_of call) files old new number j k told runs Fails tt is in finished_by x.0 x.1 x.2;
    goes_on = λ is.
        let x = result_at (inputs_of call) (ComesTo call) (report_of call) files old new number j k told runs Open tt is in goes_on_by x.0 x.1 x.2;
    runs = runs_at;
    declines = declines_at;
    others = others_at;
  }

-- where the shelf tells what it holds
pub by_files : (call : Record) (old new : ShelfTells) (number : ℕ) (j k : SinkTells) → Runs (record_of call) old new number j k
    → IfSome old.held (λ files. RecordAnswers call files (record { status = number; held = new.held; before = j; after = k }))
by_files call old new number j k runs =
    if_told old.held (λ files. RecordAnswers call files (record { status = number; held = new.held; before = j; after = k }))
    (λ files is. answers call files old new number j k is runs)
