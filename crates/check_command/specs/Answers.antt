-- The headline: what `check` answers to files that are known.
use Rattle.std.specs.Prelude.{◌≡◌, ◌⊎◌, ℕ, List, Some}
use Rattle.refutation_verdicts.specs.refute_check.Broken.{BreaksAt}
use Rattle.refutation_verdicts.specs.refute_check.Refutations.{IsClosed, IsOpen, check}
use Rattle.command_inputs.specs.tc_base.declared.moves.Move.{Move}
use Rattle.tc_io.specs.Outside.{Files, bytes_at}
use Rattle.command_frame.specs.Answers.{number_of}
use Rattle.command_frame.specs.ByStatus.{IsStatus}
use Rattle.command_frame.specs.End.{End, LeavesNothing}
use Rattle.command_inputs.specs.declared.refusal.Refusal.{Refusal}
use Rattle.refutation_verdicts.specs.command_ends.Ends.{AreShort, Declines, HasDeclined}
use Rattle.refutation_verdicts.specs.log_tasks.Tasks.{Reproduces, Task}
use Rattle.refutation_verdicts.specs.Causes.{IsUnjudged}
use Rattle.check_command.specs.Meanings.{inputs_of}
use Rattle.refutation_verdicts.specs.Refutations.{IsMoreThan, Names, Refutation, clauses_under, switches_of}
use Rattle.refutation_verdicts.specs.Verdicts.{IsRefusedAt, closed_line, found_status, open_line, refused_line}

module _ (call : Names) (files : Files) where
  -- the program and the log are a task
  abbrev pub TaskIn : Type 0
  TaskIn = Task (bytes_at files call.program) (bytes_at files call.log)

  -- the third file is a refutation
  abbrev pub RefutationIn : Type 0
  RefutationIn = Refutation (bytes_at files call.refutation)

  -- why it isn't judged
  abbrev pub IsRefused : Refusal → Type 0
  IsRefused = IsUnjudged (bytes_at files call.program) (bytes_at files call.log)
      RefutationIn (BreaksAt (bytes_at files call.refutation))

  -- the answers of `check`
  pub record CheckAnswers (e : End) : Type 0 where
    -- moves that reproduce the log have more switches than the refutation names; no moves do if it
    -- names no number
    pub closed : e.status ≡ 0 → (t : TaskIn) × (r : RefutationIn)
        × IsClosed (clauses_under t r) r.lines
        × ((moves : List Move) → Reproduces (Some r.head.model) t.pair moves
        → IsMoreThan r.head.switches (switches_of t r moves))
        × LeavesNothing files e (closed_line r.head.switches)
    -- all lines pass, but they prove nothing yet
    pub undecided : e.status ≡ 10 → (t : TaskIn) × (r : RefutationIn)
        × IsOpen (clauses_under t r) r.lines × LeavesNothing files e open_line
    -- the first line that doesn't pass is told
    pub line_refused : e.status ≡ 1 → (t : TaskIn) × (r : RefutationIn) × (n : ℕ)
        × IsRefusedAt (check (clauses_under t r) r.lines) n
        × LeavesNothing files e (refused_line n)
    -- a refutation of a task ends with the status of what the checker finds, but for devices and
    -- memory
    pub judged : AreShort (inputs_of call) files → (t : TaskIn) (r : RefutationIn)
        → IsStatus e.status (number_of (found_status (check (clauses_under t r) r.lines)))
    -- otherwise the first file that is too long is told, or why the refutation isn't judged
    pub declines : Declines (inputs_of call) IsRefused files e
    -- no others
    pub others : (e.status ≡ 0) ⊎ (e.status ≡ 1) ⊎ (e.status ≡ 10)
        ⊎ HasDeclined (inputs_of call) IsRefused files e
