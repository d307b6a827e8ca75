-- The headline: what `workload` answers. It reads and keeps no file.
use Rattle.std.specs.Prelude.{◌≡◌, ◌⊎◌, [], true, false}
use Rattle.tc_code.specs.Code.{Code}
use Rattle.tc_io.specs.Outside.{Files}
use Rattle.command_inputs.specs.command_ends.Ends.{Declines, HasDeclined}
use Rattle.command_frame.specs.ByStatus.{IsStatus}
use Rattle.command_frame.specs.End.{End, LeavesNothing}
use Rattle.workload_command.specs.Lines.{has_spent, work_line}
use Rattle.workload_command.specs.Works.{IsSearched, IsUnworked, IsWorkOf, Workload}
use Rattle.workload_command.specs.declared.work.Work.{Work}

module _ (call : Workload) (files : Files) (e : End) where
  -- this came of the program, and was told
  abbrev pub TellsWork : Work → Type 0
  TellsWork x = IsWorkOf call x × LeavesNothing files e (work_line call x)

  -- the answers of `workload`
  pub record WorkloadAnswers : Type 0 where
    -- under both models there is a schedule that reproduces the log, or a derivation that none does
    pub decided : e.status ≡ 0 → (x : Work) × (has_spent x ≡ false) × TellsWork x
    -- a search was given up, with as many added lines as there were conflicts
    pub spent : e.status ≡ 10 → (x : Work) × (has_spent x ≡ true) × TellsWork x
    -- a program whose log is within the limits is searched, but for devices and memory
    pub complete : (code : Code) → IsSearched call code → (e.status ≡ 0) ⊎ IsStatus e.status 10
    -- a text that isn't a program, or a log without clauses, is told, but for devices and memory
    pub declines : Declines [] (IsUnworked call) files e
    -- nothing else is answered
    pub others : (e.status ≡ 0) ⊎ (e.status ≡ 10) ⊎ HasDeclined [] (IsUnworked call) files e
