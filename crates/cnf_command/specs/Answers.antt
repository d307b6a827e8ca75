-- The headline: what `cnf` answers to files that are known.
use Rattle.std.specs.Prelude.{◌≡◌, ◌↔◌, ◌⊎◌, List, IsTrue}
use Rattle.cnf_core.specs.Clauses.{Formula, Valuation, satisfies}
use Rattle.dimacs_text.specs.Texts.{cnf_text}
use Rattle.run_log.specs.tc_base.declared.moves.Move.{Move}
use Rattle.tc_io.specs.Outside.{Files}
use Rattle.command_frame.specs.ByStatus.{IsStatus}
use Rattle.command_frame.specs.End.{End, Leaves}
use Rattle.command_inputs.specs.command_ends.Ends.{AreShort, Declines, HasDeclined}
use Rattle.log_tasks.specs.Asked.{Asked, IsRefused, TaskOf, inputs_of}
use Rattle.log_tasks.specs.Tasks.{Reproduces, clauses_of}
use Rattle.cnf_command.specs.Lines.{clauses_line}

-- some values satisfy the clauses
abbrev pub IsSatisfiable : Formula → Type 0
IsSatisfiable f = (v : Valuation) × IsTrue (satisfies v f.clauses)

module _ (call : Asked) (files : Files) (e : End) where
  -- OUT holds the clauses of the log, and nothing else changed
  abbrev pub LeavesClauses : TaskOf call files → Type 0
  LeavesClauses t =
      Leaves files e call.out (cnf_text (clauses_of call.model t.pair))
      (clauses_line (clauses_of call.model t.pair))

  -- the answers of `cnf`
  pub record CnfAnswers : Type 0 where
    -- OUT holds clauses that can be satisfied exactly if some moves reproduce the log
    pub exported : e.status ≡ 0 → (t : TaskOf call files)
        × (IsSatisfiable (clauses_of call.model t.pair)
        ↔ ((moves : List Move) × Reproduces call.model t.pair moves)) × LeavesClauses t
    -- a program and a log that go together have clauses, but for devices and memory
    pub complete : TaskOf call files → AreShort (inputs_of call) files → IsStatus e.status 0
    -- the first file that is too long is told, or else why the files are refused
    pub declines : Declines (inputs_of call) (IsRefused call files) files e
    -- no others
    pub alone : (e.status ≡ 0) ⊎ HasDeclined (inputs_of call) (IsRefused call files) files e
