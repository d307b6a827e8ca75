-- The first line of a text that breaks the format of a schedule.
use Rattle.std.specs.Prelude.{◌≡◌, ℕ, ◌+◌, ◌<◌, ◌⊎◌, IsTrue, List, ◌++◌, length}
use Rattle.memory_models.specs.declared.model.Model.{Model}
use Rattle.tc_base.specs.declared.moves.Move.{Move}
use Rattle.schedule_file.specs.declared.fault.ScheduleFault.{ScheduleFault}
use Rattle.schedule_file.specs.declared.fault.ScheduleFault.TheVariants.{Form, Memory}
use Rattle.schedule_file.specs.Schedules.{header, line, schedule_text, is_move, HaveText, most_lines}

-- the text doesn't begin with a header
abbrev pub BeginsNoSchedule : List ℕ → Type 0
BeginsNoSchedule text = (model : Model) (after : List ℕ) → text ≡ header model ++ after → ⊥

-- the text doesn't begin with the line of a move of this model
abbrev pub BeginsNoMove : Model → List ℕ → Type 0
BeginsNoMove model text =
    (move : Move) (after : List ℕ) → IsTrue (is_move model move) → text ≡ line move ++ after → ⊥

-- the lines before this one are a schedule; this one is not the line of a move, or is one too many
pub record EndsBefore (text : List ℕ) (number : ℕ) : Type 0 where
  pub model : Model
  pub moves : List Move
  pub rest : List ℕ
  pub have_text : HaveText model moves
  pub split : text ≡ schedule_text model moves ++ rest
  pub more : 0 < length rest
  pub number_is : number ≡ length moves + 2
  pub none : number < most_lines + 1 → BeginsNoMove model rest

-- the first line that breaks the format of a schedule has this number, counted from 1
abbrev pub BreaksAt : List ℕ → ℕ → Type 0
BreaksAt text number = (BeginsNoSchedule text × (number ≡ 1)) ⊎ EndsBefore text number

-- what a fault says about a text
abbrev pub IsFault : List ℕ → ScheduleFault → Type 0
IsFault text (Form number) = BreaksAt text number
IsFault text Memory = Unit {0}
