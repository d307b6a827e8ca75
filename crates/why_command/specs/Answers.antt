-- The headline: what `why` answers to files that are known.
use Rattle.std.specs.Prelude.{◌≡◌, ◌⊎◌, ℕ, List, Some}
use Rattle.refute_check.specs.Refutations.{IsOpen, check}
use Rattle.run_log.specs.tc_base.declared.moves.Move.{Move}
use Rattle.tc_io.specs.Outside.{Files, bytes_at}
use Rattle.why_impossible.specs.Reasons.{reasons_text}
use Rattle.why_impossible.specs.declared.reason.Reason.{Reason}
use Rattle.command_frame.specs.Answers.{number_of}
use Rattle.command_frame.specs.ByStatus.{IsStatus}
use Rattle.command_frame.specs.End.{End, LeavesNothing}
use Rattle.command_inputs.specs.declared.refusal.Refusal.{Refusal}
use Rattle.refutation_verdicts.specs.command_ends.Ends.{AreShort, Declines, HasDeclined}
use Rattle.log_tasks.specs.Tasks.{Reproduces, Task}
use Rattle.refutation_verdicts.specs.Causes.{IsUnjudged}
use Rattle.refutation_verdicts.specs.Refutations.{Names, clauses_under}
use Rattle.refutation_verdicts.specs.Verdicts.{IsRefusedAt, found_status, open_line, refused_line}
use Rattle.why_command.specs.Causes.{AreReasons, IsBrokenAt, Plain}
use Rattle.why_command.specs.Meanings.{inputs_of}

module _ (call : Names) (files : Files) where
  -- the program and the log are a task
  abbrev pub TaskIn : Type 0
  TaskIn = Task (bytes_at files call.program) (bytes_at files call.log)

  -- the third file is a refutation of all schedules
  abbrev pub PlainIn : Type 0
  PlainIn = Plain (bytes_at files call.refutation)

  -- why it isn't judged
  abbrev pub IsRefused : Refusal → Type 0
  IsRefused = IsUnjudged (bytes_at files call.program) (bytes_at files call.log)
      PlainIn (IsBrokenAt (bytes_at files call.refutation))

  -- the answers of `why`
  pub record WhyAnswers (e : End) : Type 0 where
    -- no moves reproduce the log under the refutation's model, for the reasons that are told
    pub explained : e.status ≡ 0 → (t : TaskIn) × (r : PlainIn) × (reasons : List Reason)
        × AreReasons t r reasons
        × ((moves : List Move) → Reproduces (Some r.refutation.head.model) t.pair moves → ⊥)
        × LeavesNothing files e (reasons_text reasons)
    -- all lines pass, but they prove nothing yet
    pub undecided : e.status ≡ 10 → (t : TaskIn) × (r : PlainIn)
        × IsOpen (clauses_under t r.refutation) r.refutation.lines
        × LeavesNothing files e open_line
    -- the first line that doesn't pass is told
    pub line_refused : e.status ≡ 1 → (t : TaskIn) × (r : PlainIn) × (n : ℕ)
        × IsRefusedAt (check (clauses_under t r.refutation) r.refutation.lines) n
        × LeavesNothing files e (refused_line n)
    -- a refutation of a task ends with the status of what the checker finds, as for `check`, but
    -- for devices and memory; so there are reasons for each that is closed
    pub judged : AreShort (inputs_of call) files → (t : TaskIn) (r : PlainIn)
        → IsStatus e.status
        (number_of (found_status (check (clauses_under t r.refutation) r.refutation.lines)))
    -- otherwise the first file that is too long is told, or why the refutation isn't judged
    pub declines : Declines (inputs_of call) IsRefused files e
    -- no others
    pub others : (e.status ≡ 0) ⊎ (e.status ≡ 1) ⊎ (e.status ≡ 10)
        ⊎ HasDeclined (inputs_of call) IsRefused files e
