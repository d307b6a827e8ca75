-- How a call over known files ended.
use Rattle.std.specs.Prelude.{◌≡◌, ℕ, List, Option, Some}
use Rattle.tc_io.specs.Outside.{Files, SinkTells, Wrote, put_under}
use Rattle.command_frame.specs.Answers.{limit_line}
use Rattle.command_frame.specs.Inputs.{Limit}

-- how a call ended: its status, what the shelf holds, and the sink before and after it
pub record End : Type 0 where
  pub status : ℕ
  pub held : Option Files
  pub before : SinkTells
  pub after : SinkTells

-- the file of this name holds this text, all else is as before, and this line was put
abbrev pub Leaves : Files → End → (name text line : List ℕ) → Type 0
Leaves files e name text line =
    (e.held ≡ put_under name text (Some files)) × Wrote e.before e.after line

-- all is as before, and this line was put
abbrev pub LeavesNothing : Files → End → (line : List ℕ) → Type 0
LeavesNothing files e line = (e.held ≡ Some files) × Wrote e.before e.after line

-- all is as before, and this limit of an input was told
abbrev pub TellsLimit : Files → End → Limit → Type 0
TellsLimit files e limit = (e.status ≡ 6) × LeavesNothing files e (limit_line limit)
