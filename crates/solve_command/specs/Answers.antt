-- The headline: what `solve` answers to files that are known.
use Rattle.std.specs.Prelude.{◌≡◌, ◌⊎◌, ℕ, List}
use Rattle.clap_solve.specs.cdcl_core.Solving.{Solves}
use Rattle.clap_solve.specs.cdcl_core.declared.answer.Answer.TheVariants.{Spent}
use Rattle.refute_check.specs.Refutations.{IsClosed}
use Rattle.refute_check.specs.declared.line.Line.{Line}
use Rattle.run_log.specs.tc_base.declared.moves.Move.{Move}
use Rattle.tc_io.specs.Outside.{Files}
use Rattle.command_frame.specs.ByStatus.{IsStatus}
use Rattle.command_frame.specs.End.{End, Leaves}
use Rattle.command_inputs.specs.command_ends.Ends.{AreShort, Declines, HasDeclined}
use Rattle.log_tasks.specs.Asked.{IsRefused, LeavesSchedule, TaskOf, inputs_of}
use Rattle.log_tasks.specs.Lines.{impossible_line, spent_line}
use Rattle.log_tasks.specs.Tasks.{Reproduces, clauses_of, model_of}
use Rattle.log_tasks.specs.Texts.{IsRefutation, head_of}
use Rattle.solve_command.specs.Calls.{Solve}

module _ (call : Solve) (files : Files) (e : End) where
  -- OUT holds a refutation of all schedules with these lines, and nothing else changed
  abbrev pub LeavesRefutation : TaskOf call.asked files → List Line → (said : List ℕ) → Type 0
  LeavesRefutation t lines said =
      (text : List ℕ) × IsRefutation text (head_of (model_of call.asked.model t.pair)) lines
      × Leaves files e call.asked.out text said

  -- the lines are closed on the clauses of the log
  abbrev pub LeavesClosed : TaskOf call.asked files → Type 0
  LeavesClosed t =
      (lines : List Line) × IsClosed (clauses_of call.asked.model t.pair) lines
      × LeavesRefutation t lines (impossible_line lines)

  -- the lines are open on them, and add as many clauses as the budget has conflicts
  abbrev pub LeavesOpen : TaskOf call.asked files → Type 0
  LeavesOpen t =
      (lines : List Line) × Solves (clauses_of call.asked.model t.pair) call.budget (Spent lines)
      × LeavesRefutation t lines (spent_line call.budget)

  -- the answers of `solve`
  pub record SolveAnswers : Type 0 where
    -- the moves of the schedule in OUT reproduce the log
    pub found : e.status ≡ 0
        → (t : TaskOf call.asked files) × (moves : List Move)
        × Reproduces call.asked.model t.pair moves × LeavesSchedule call.asked files e t moves
    -- no moves reproduce the log; OUT has a refutation, which `check` accepts
    pub impossible : e.status ≡ 1
        → (t : TaskOf call.asked files)
        × ((moves : List Move) → Reproduces call.asked.model t.pair moves → ⊥) × LeavesClosed t
    -- the budget is spent, and the refutation in OUT is open
    pub spent : e.status ≡ 10 → (t : TaskOf call.asked files) × LeavesOpen t
    -- a program and a log that go together are searched, but for devices and memory
    pub searched : TaskOf call.asked files → AreShort (inputs_of call.asked) files
        → (e.status ≡ 0) ⊎ (e.status ≡ 1) ⊎ IsStatus e.status 10
    -- the first file that is too long is told, or else why the files aren't searched
    pub declines : Declines (inputs_of call.asked) (IsRefused call.asked files) files e
    -- no others
    pub alone : (e.status ≡ 0) ⊎ (e.status ≡ 1) ⊎ (e.status ≡ 10)
        ⊎ HasDeclined (inputs_of call.asked) (IsRefused call.asked files) files e
