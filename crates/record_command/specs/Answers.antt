-- The headline: what `record` answers to a program that is known.
use Rattle.std.specs.Prelude.{◌≡◌, ◌⊎◌, ℕ, ◌≤◌, List, length}
use Rattle.tc_code.specs.Code.{Code}
use Rattle.tc_compile.specs.Programs.{IsCodeOf}
use Rattle.tc_io.specs.Outside.{Files, bytes_at}
use Rattle.tc_code.specs.tc_limits.declared.limits.TheConstants.{PROGRAM_BYTES}
use Rattle.tc_record.specs.declared.end.Which.{Which}
use Rattle.command_inputs.specs.command_ends.Ends.{Declines, HasDeclined}
use Rattle.command_frame.specs.Answers.{number_of}
use Rattle.command_frame.specs.ByStatus.{IsStatus}
use Rattle.command_frame.specs.End.{End, Leaves, LeavesNothing}
use Rattle.record_command.specs.Lines.{end_status, ending_said, outcome_line}
use Rattle.record_command.specs.Logs.{IsRecorded}
use Rattle.record_command.specs.Meanings.{IsRanOf, IsUnread, inputs_of}
use Rattle.record_command.specs.Runs.{Record, run_of}
use Rattle.record_command.specs.declared.ending.Ending.{Ending}
use Rattle.record_command.specs.declared.ending.Ending.TheVariants.{Finished, StepLimit, Over}
use Rattle.record_command.specs.declared.ending.Outcome.{Outcome}
use Rattle.record_command.specs.declared.ending.Ran.TheVariants.{Unlogged}

module _ (call : Record) (files : Files) (e : End) where
  -- the bytes of the program
  abbrev pub program : List ℕ
  program = bytes_at files call.program

  -- its run failed or deadlocked so; LOG holds the text of its log, which the run's moves reproduce
  abbrev pub LeavesLog : Outcome → (text : List ℕ) → Type 0
  LeavesLog o text = IsRecorded call program o text × Leaves files e call.log text (outcome_line o)

  -- its run ended so, without a log, and this was told
  abbrev pub TellsEnding : Ending → Type 0
  TellsEnding x = IsRanOf call program (Unlogged x) × LeavesNothing files e (ending_said x).1

  -- the answers of `record`
  pub record RecordAnswers : Type 0 where
    -- LOG holds the text of a log of the program, which the moves of its run reproduce
    pub recorded : e.status ≡ 0 → (o : Outcome) × (text : List ℕ) × LeavesLog o text
    -- every thread exited
    pub finished : e.status ≡ 1 → TellsEnding Finished
    -- the run made as many moves as allowed
    pub goes_on : e.status ≡ 10 → (moves : ℕ) × TellsEnding (StepLimit moves)
    -- the status of a program that isn't too long is that of its run, but for devices and memory
    pub runs : (code : Code) → IsCodeOf program code → length program ≤ PROGRAM_BYTES
        → IsStatus e.status (number_of (end_status (run_of call code).end))
    -- a text that isn't a program, or is too long, is told, but for devices and memory
    pub declines : Declines (inputs_of call) (IsUnread program) files e
    -- otherwise the run passed a limit, or one of these was told
    pub others : (e.status ≡ 0) ⊎ (e.status ≡ 1) ⊎ (e.status ≡ 10)
        ⊎ ((which : Which) × (e.status ≡ 6) × TellsEnding (Over which))
        ⊎ HasDeclined (inputs_of call) (IsUnread program) files e
