-- Runs under one memory model as runs under another.
use Rattle.std.specs.Prelude.{◌≡◌, Bool, true, List, [], ◌∷◌, ◌++◌, None, option_map, if◌then◌else◌}
use Rattle.std.specs.Option.{option_map_or}
use Rattle.std.specs.FinMap as fin
use Rattle.store_buffers.specs.tc_base.Buffers.{BufferOps}
use Rattle.store_buffers.specs.Buffers.{no_buffer, fifo_buffer}
use Rattle.store_buffers.specs.tc_base.Names.{Name}
use Rattle.store_buffers.specs.tc_base.States.{Local, Thread, State}
use Rattle.store_buffers.specs.tc_base.declared.moves.Move.{Move}
use Rattle.store_buffers.specs.tc_base.declared.moves.Move.TheVariants as move
use Rattle.store_buffers.specs.tc_base.declared.request.Request.{Request}
use Rattle.store_buffers.specs.tc_base.declared.request.Request.TheVariants.{Write}
use Rattle.run_laws.specs.tc_code.Code.{Code}
use Rattle.run_laws.specs.tc_code.Step.{request, instr_of, step, opening}
use Rattle.store_buffers.specs.Pending.{Binding, form_of, binds_all, binds_cells}

-- `more` allows all that `ops` does: it binds no more, and it has buffers if `ops` has them
pub record AllowsMore {B C : Type 0} (ops : BufferOps B) (bound : Binding) (more : BufferOps C)
    (bound_more : Binding) : Type 0 where
  pub binds : (same_cell barred : Bool) → bound_more same_cell barred ≡ true
      → bound same_cell barred ≡ true
  pub buffers : ops.buffered ≡ true → more.buffered ≡ true

-- the moves of a run as moves of a model that allows more, given that model's buffers and binding
module _ {B : Type 0} (ops : BufferOps B) (code : Code) (buffered : Bool) (bound : Binding) where
  -- the drain that follows a write at once, if only the new model has buffers
  abbrev pub drains_at_once : Name → Request → List Move
  drains_at_once n (Write c v) =
      if ops.buffered then [] else if buffered then move.Drain n (form_of bound c) ∷ [] else []
  drains_at_once n _ = []

  -- a move as moves of the new model, whose binding decides whether a drain names its cell
  abbrev pub move_as : State B → Move → List Move
  move_as s (move.Run n) =
      move.Run n
      ∷ option_map_or
      (λ t. option_map_or (λ i. drains_at_once n (request t.local i)) (instr_of code t.local) [])
      (fin.get s.threads n) []
  move_as s (move.Wake n u) = move.Wake n u ∷ []
  move_as s (move.Drain n form) =
      move.Drain n
      (option_map_or (λ t. form_of bound (ops.drain t.buffer form).entry.cell)
      (fin.get s.threads n) None) ∷ []

  abbrev pub moves_from : State B → List Move → List Move
  moves_from s [] = []
  moves_from s (m ∷ ms) = move_as s m ++ option_map_or (λ u. moves_from u ms) (step ops code s m) []

  abbrev pub moves_as : List Move → List Move
  moves_as ms = moves_from (opening ops code) ms

-- a run under sequential consistency as one under total store order: each store drains at once
abbrev pub drained_at_once : Code → List Move → List Move
drained_at_once code ms = moves_as no_buffer code true binds_all ms

-- a run under total store order as one under partial store order: each drain names its cell
abbrev pub with_cells : Code → List Move → List Move
with_cells code ms = moves_as fifo_buffer code true binds_cells ms

abbrev pub local_of : {B : Type 0} → Thread B → Local
local_of t = t.local

-- two states are equal apart from their buffers
pub record SameButBuffers {B C : Type 0} (s : State B) (u : State C) : Type 0 where
  pub memory : s.memory ≡ u.memory
  pub owners : s.owners ≡ u.owners
  pub waiters : s.waiters ≡ u.waiters
  pub failed : s.failed ≡ u.failed
  pub threads : (n : Name)
      → option_map local_of (fin.get s.threads n) ≡ option_map local_of (fin.get u.threads n)
