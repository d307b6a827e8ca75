-- The headline: what `import` answers to files that are known.
use Rattle.std.specs.Prelude.{◌≡◌, ◌⊎◌, ℕ, List}
use Rattle.run_log.specs.tc_base.declared.moves.Move.{Move}
use Rattle.tc_io.specs.Outside.{Files}
use Rattle.command_frame.specs.ByStatus.{IsStatus}
use Rattle.command_frame.specs.End.{End, LeavesNothing}
use Rattle.command_inputs.specs.command_ends.Ends.{AreShort, Declines, HasDeclined}
use Rattle.log_tasks.specs.Asked.{LeavesSchedule}
use Rattle.log_tasks.specs.Tasks.{Reproduces}
use Rattle.import_command.specs.Calls.{AnsweredIn, Import, IsRefused, inputs_of}
use Rattle.import_command.specs.Lines.{imported_said}
use Rattle.import_command.specs.Meanings.{IsSatisfying, MakesFalse}
use Rattle.import_command.specs.declared.imported.Imported.TheVariants.{False}

module _ (call : Import) (files : Files) (e : End) where
  -- the answers of `import`
  pub record ImportAnswers : Type 0 where
    -- the answer satisfies the clauses, and the moves of the schedule in OUT reproduce the log
    pub found : e.status ≡ 0
        → (a : AnsweredIn call files) × (moves : List Move) × IsSatisfying call.asked.model a
        × Reproduces call.asked.model a.task.pair moves
        × LeavesSchedule call.asked files e a.task moves
    -- the first clause that the answer makes false is told
    pub false_clause : e.status ≡ 1
        → (a : AnsweredIn call files) × (n : ℕ) × MakesFalse call.asked.model a n
        × LeavesNothing files e (imported_said (False n)).1
    -- each comes whenever the files decide it, but for devices and memory
    pub satisfied : AreShort (inputs_of call) files → (a : AnsweredIn call files)
        → IsSatisfying call.asked.model a → IsStatus e.status 0
    pub falsified : AreShort (inputs_of call) files → (a : AnsweredIn call files) (n : ℕ)
        → MakesFalse call.asked.model a n → IsStatus e.status 1
    -- so does the limit of the first file that is too long, or why the files are refused
    pub declines : Declines (inputs_of call) (IsRefused call files) files e
    -- no others
    pub alone : (e.status ≡ 0) ⊎ (e.status ≡ 1)
        ⊎ HasDeclined (inputs_of call) (IsRefused call files) files e
