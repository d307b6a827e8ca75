-- What commands are asked that search a log or export its clauses, and what comes of it.
use Rattle.std.specs.Prelude.{ℕ, List, [], ◌∷◌, Option, Result, Ok, Err}
use Rattle.run_log.specs.memory_models.declared.model.Model.{Model}
use Rattle.run_log.specs.tc_base.declared.moves.Move.{Move}
use Rattle.run_log.specs.Logs.{Log}
use Rattle.tc_code.specs.Code.{Code}
use Rattle.command_inputs.specs.tc_io.Outside.{Files, bytes_at}
use Rattle.command_inputs.specs.command_frame.End.{End, Leaves}
use Rattle.command_inputs.specs.command_frame.Inputs.{Texts, Wanted, Whole}
use Rattle.command_inputs.specs.Forms.{IsSchedule}
use Rattle.command_inputs.specs.Limits.{log_limit, program_limit}
use Rattle.command_inputs.specs.declared.refusal.Refusal.{Refusal}
use Rattle.log_tasks.specs.Lines.{moves_line}
use Rattle.log_tasks.specs.Refused.{IsUnsearched}
use Rattle.log_tasks.specs.Tasks.{Task, model_of}

-- `PROGRAM LOG OUT [--model MODEL]`: the names of the files, and the memory model that is asked for
pub record Asked : Type 0 where
  pub program : List ℕ
  pub log : List ℕ
  pub out : List ℕ
  pub model : Option Model

-- the files that are read
abbrev pub inputs_of : Asked → List Wanted
inputs_of asked = Whole program_limit asked.program ∷ Whole log_limit asked.log ∷ []

-- what comes of their bytes: what is found in the log of their task under the memory model that is
-- meant, or why it isn't searched
abbrev pub ComesTo : {X : Type 0} → Option Model → (IsFound : Code → Log → Model → X → Type 0)
    → Texts → Result X Refusal → Type 0
ComesTo model IsFound (program ∷ log ∷ []) (Ok x) =
    (t : Task program log) × IsFound t.pair.code t.pair.run.log (model_of model t.pair) x
ComesTo model IsFound (program ∷ log ∷ []) (Err r) = IsUnsearched program log r
ComesTo model IsFound _ outcome = ⊥

module _ (asked : Asked) (files : Files) where
  -- the files are a program and a log that has clauses
  abbrev pub TaskOf : Type 0
  TaskOf = Task (bytes_at files asked.program) (bytes_at files asked.log)

  -- they are refused for this reason
  abbrev pub IsRefused : Refusal → Type 0
  IsRefused r = IsUnsearched (bytes_at files asked.program) (bytes_at files asked.log) r

  -- OUT holds a schedule of these moves under the memory model that is meant, and nothing else
  -- changed
  abbrev pub LeavesSchedule : End → TaskOf → List Move → Type 0
  LeavesSchedule e t moves =
      (text : List ℕ)
      × IsSchedule text (record { model = model_of asked.model t.pair; moves = moves })
      × Leaves files e asked.out text (moves_line moves)
