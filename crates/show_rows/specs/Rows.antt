-- The rows of a schedule's moves, as far as these could be made, and how the schedule ended.
use Rattle.std.specs.Prelude.{◌≡◌, true, List, [], ◌∷◌, ◌++◌, map, Some, None, IsSome, IsSomeAnd}
use Rattle.std.specs.FinMap as fin
use Rattle.tc_base.specs.Buffers.{BufferOps}
use Rattle.tc_base.specs.States.{State}
use Rattle.tc_base.specs.declared.moves.Move.{Move}
use Rattle.tc_code.specs.Code.{Code}
use Rattle.tc_code.specs.Run.{run, IsStuck}
use Rattle.tc_code.specs.Step.{step}
use Rattle.tc_machine.specs.Exits.{all_have_exited}
use Rattle.tc_machine.specs.Why.{why}
use Rattle.show_deeds.specs.run_history.History.{history}
use Rattle.show_deeds.specs.run_history.History.{Deed}
use Rattle.show_deeds.specs.run_history.Locals.{locals_in}
use Rattle.show_deeds.specs.Deeds.{plain_deed, doer}
use Rattle.show_rows.specs.declared.row.Row.{Row}
use Rattle.show_rows.specs.declared.told.End.{End}
use Rattle.show_rows.specs.declared.told.End.TheVariants as end

-- the deeds of rows
abbrev pub deeds : List Row → List Deed
deeds rows = map (λ r. plain_deed r.deed) rows

-- the place of a row's thread after these deeds, and the value of each of its slots
abbrev pub WasAt : Code → List Deed → Row → Type 0
WasAt code h r =
    IsSomeAnd (fin.get (locals_in code h) (doer r.deed))
    (λ t. (t.function ≡ r.function) × (t.instruction ≡ r.instruction) × (t.slots ≡ r.slots.items))

-- the same for each row, given the deeds before it
abbrev pub WereAt : Code → List Deed → List Row → Type 0
WereAt code h [] = Unit {0}
WereAt code h (r ∷ rs) = WasAt code h r × WereAt code (h ++ plain_deed r.deed ∷ []) rs

module _ {B : Type 0} (ops : BufferOps B) (code : Code) where
  -- some move is enabled
  abbrev pub MayGoOn : State B → Type 0
  MayGoOn s = (s.failed ≡ None) × ((m : Move) × IsSome (step ops code s m))

  -- how a schedule ended, if its moves up to here lead to the state: the next one isn't enabled, or
  -- none are left
  abbrev pub EndsSo : State B → List Move → End → Type 0
  EndsSo s [] end.Failed = IsSome s.failed
  EndsSo s [] end.Finished = (s.failed ≡ None) × (all_have_exited s ≡ true)
  EndsSo s [] end.Deadlock = IsStuck ops code s
  EndsSo s [] end.Open = MayGoOn s
  EndsSo s (m ∷ ms) (end.Stopped reason) = why ops code s m ≡ Some reason
  EndsSo s _ _ = ⊥

  -- the rows are the history of the moves that could be made, each thread was at its row's place,
  -- and the schedule ended this way
  pub record AreTold (moves : List Move) (rows : List Row) (end : End) : Type 0 where
    pub made : List Move
    pub left : List Move
    pub state : State B
    pub split : moves ≡ made ++ left
    pub leads : run ops code made ≡ Some state
    pub told : deeds rows ≡ history ops code made
    pub at : WereAt code [] rows
    pub ends : EndsSo state left end
