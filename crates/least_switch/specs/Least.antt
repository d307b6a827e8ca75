-- The results of a search for a schedule with the fewest context switches.
use Rattle.std.specs.Prelude.{◌≡◌, ℕ, zero, suc, ◌≤◌, List, Option, Some, None}
use Rattle.run_log.specs.tc_base.Buffers.{BufferOps}
use Rattle.run_log.specs.Logs.{Log}
use Rattle.run_log.specs.memory_models.declared.model.Model.{Model}
use Rattle.run_log.specs.tc_base.declared.moves.Move.{Move}
use Rattle.tc_code.specs.Code.{Code}
use Rattle.tc_code.specs.Run.{Reproduces}
use Rattle.store_buffers.specs.Pending.{Binding}
use Rattle.schedule_file.specs.declared.schedule.Schedule.{Schedule}
use Rattle.refute_check.specs.Refutations.{IsClosed}
use Rattle.refute_check.specs.declared.line.Line.{Line}
use Rattle.cdcl_core.specs.Solving.{Solves}
use Rattle.cdcl_core.specs.declared.answer.Answer.TheVariants as answer
use Rattle.clap_solve.specs.Solved.{IsAnswer, IsWithin}
use Rattle.switch_clauses.specs.switch_runs.Switches.{switches}
use Rattle.switch_clauses.specs.Clauses.{switch_clauses}
use Rattle.least_switch.specs.declared.answer.Least.{Least}
use Rattle.least_switch.specs.declared.answer.Least.TheVariants.{Found, Impossible, Spent, SpentAt}

module _ {B : Type 0} (ops : BufferOps B) (model : Model) (code : Code) (log : Log) where
  -- a schedule of the model whose moves reproduce the log with `count` switches, at most 255
  pub record HasSwitches (schedule : Schedule) (count : ℕ) : Type 0 where
    pub model_is : schedule.model ≡ model
    pub reproduces : Reproduces ops code log schedule.moves.items
    pub count_is : switches ops code schedule.moves.items ≡ count
    pub few : count ≤ 255

  -- all moves that reproduce the log have at least `count` switches
  abbrev pub IsFewest : ℕ → Type 0
  IsFewest count =
      (moves : List Move) → Reproduces ops code log moves → count ≤ switches ops code moves

module _ {B : Type 0} (ops : BufferOps B) (model : Model) (bound : Binding) (code : Code)
    (log : Log) where
  -- for a count above 0, a derivation is closed on the clauses with one switch fewer; for 0, none
  abbrev pub IsShown : ℕ → Option (List Line) → Type 0
  IsShown zero None = Unit {0}
  IsShown (suc fewer) (Some lines) =
      IsClosed (switch_clauses ops.buffered bound code log fewer) lines
  IsShown _ _ = ⊥

  module _ (budget : ℕ) where
    -- with one switch fewer, a derivation is open, fresh and deletes few clauses, and adds as many
    -- as the budget says, none of them empty
    abbrev pub IsSpentBelow : ℕ → List Line → Type 0
    IsSpentBelow zero lines = ⊥
    IsSpentBelow (suc fewer) lines =
        Solves (switch_clauses ops.buffered bound code log fewer) budget (answer.Spent lines)

    -- a schedule reproduces the log with the fewest switches, which is proved; or the search for
    -- any schedule found none; or the search for one with fewer switches than this schedule was
    -- given up
    abbrev pub IsLeastAnswer : Least → Type 0
    IsLeastAnswer (Found schedule count shown) =
        HasSwitches ops model code log schedule count × IsFewest ops model code log count
        × IsShown count shown
    IsLeastAnswer (Impossible lines) =
        IsAnswer ops model bound code log budget (answer.Impossible lines)
    IsLeastAnswer (Spent lines) = IsAnswer ops model bound code log budget (answer.Spent lines)
    IsLeastAnswer (SpentAt schedule count lines) =
        HasSwitches ops model code log schedule count × IsSpentBelow count lines

    -- the answer is right, and the log is within the limits
    pub record IsLeast (least : Least) : Type 0 where
      pub within : IsWithin code log
      pub is : IsLeastAnswer least
