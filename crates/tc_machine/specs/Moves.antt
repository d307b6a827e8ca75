-- The enabled moves of a state, in the order in which they are listed.
use Rattle.std.specs.Prelude.{List, ◌∷◌, ◌++◌, length, map, Bool, is_some, Some, None, filter}
use Rattle.std.specs.List.{flat_map, range_with_len}
use Rattle.std.specs.FinMap as fin
use Rattle.tc_base.specs.Names.{Name}
use Rattle.tc_base.specs.Buffers.{BufferOps}
use Rattle.tc_base.specs.States.{State}
use Rattle.tc_base.specs.declared.moves.Move.{Move}
use Rattle.tc_base.specs.declared.moves.Move.TheVariants.{Run, Wake, Drain}
use Rattle.tc_machine.specs.declared.choice.Choice.{Choice}
use Rattle.tc_machine.specs.declared.choice.Choice.TheVariants as choice
use Rattle.tc_code.specs.Code.{Code}
use Rattle.tc_code.specs.Step.{step}

-- the move of a choice, whose names are borrowed
abbrev pub move_of : Choice → Move
move_of (choice.Run n) = Run n.now
move_of (choice.Wake n u) = Wake n.now u.now
move_of (choice.Drain n form) = Drain n.now form

module _ {B : Type 0} (ops : BufferOps B) (code : Code) (s : State B) where
  abbrev pub is_enabled : Move → Bool
  is_enabled m = is_some (step ops code s m)

  -- a thread's possible steps: to run, or to wake one of the threads, in order of names
  abbrev pub steps_of : Name → List Move
  steps_of n = Run n ∷ map (λ u. Wake n u) (fin.keys s.threads)

  -- a thread's possible drains: of its oldest store, or of its oldest to a cell, in order of cells
  abbrev pub drains_of : Name → List Move
  drains_of n = Drain n None ∷ map (λ c. Drain n (Some c)) (range_with_len 0 (length s.memory))

  -- a thread's enabled moves
  abbrev pub moves_of : Name → List Move
  moves_of n = filter is_enabled (steps_of n ++ drains_of n)

  -- all enabled moves, in order of the names of their threads
  abbrev pub enabled_moves : List Move
  enabled_moves = flat_map moves_of (fin.keys s.threads)
