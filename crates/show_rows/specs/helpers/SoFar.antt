-- What is known while rows are recorded.
use Rattle.std.specs.Prelude.{◌≡◌, List, Some}
use Rattle.tc_base.specs.Buffers.{BufferOps}
use Rattle.tc_base.specs.States.{State}
use Rattle.tc_base.specs.declared.moves.Move.{Move}
use Rattle.tc_code.specs.Code.{Code}
use Rattle.tc_code.specs.Run.{run}
use Rattle.show_deeds.specs.run_history.History.{history}
use Rattle.show_deeds.specs.Seen.{seen_in}
use Rattle.show_rows.specs.Rows.{deeds}
use Rattle.show_rows.specs.declared.telling.Telling.{Telling}

-- some moves lead to the state, the rows are their history, and `seen` is memory and buffers after
-- it
pub record IsSoFar {B : Type 0} (ops : BufferOps B) (code : Code) (s : State B)
    (t : Telling) : Type 0 where
  pub made : List Move
  pub leads : run ops code made ≡ Some s
  pub told : deeds t.rows.items ≡ history ops code made
  pub sees : t.seen ≡ seen_in ops.buffered code (deeds t.rows.items)
