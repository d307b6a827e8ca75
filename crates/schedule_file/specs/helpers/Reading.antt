-- Readers of the front of a text: each gives a value and the rest of the text.
use Rattle.std.specs.Prelude.{ℕ, zero, suc, ◌-◌, ◌==◌, if◌then◌else◌, List, [], ◌∷◌, Option, Some, None, codes}
use Rattle.tc_base.specs.Names.{Name}
use Rattle.tc_limits.specs.declared.limits.TheConstants.{CELLS, DEPTH}
use Rattle.memory_models.specs.declared.model.Model.{Model}
use Rattle.memory_models.specs.declared.model.Model.TheVariants.{Sc, Tso, Pso}
use Rattle.tc_base.specs.declared.moves.Move.{Move}
use Rattle.tc_base.specs.declared.moves.Move.TheVariants.{Run, Wake, Drain}
use Rattle.tc_decimal.specs.Decimals.{number_at}

infixl 10 ◌>>=◌
abbrev pub ◌>>=◌ : {A B : Type 0} → Option A → (A → Option B) → Option B
(Some x) >>= f = f x
None >>= f = None

-- the first option if it has a value, else the second
abbrev pub or_else : {A : Type 0} → Option A → Option A → Option A
or_else (Some x) other = Some x
or_else None other = other

-- the rest of the bytes, if they begin with this front
abbrev pub behind : List ℕ → List ℕ → Option (List ℕ)
behind [] bytes = Some bytes
behind (f ∷ front) [] = None
behind (f ∷ front) (b ∷ bytes) = if f == b then behind front bytes else None

-- a child in front of the children that are read next
abbrev pub with_child : ℕ → Option (Name × List ℕ) → Option (Name × List ℕ)
with_child child others = others >>= λ x. Some (child ∷ x.0, x.1)

-- no children if there is no dot in front, else what `read` gives for the bytes after the dot
abbrev pub where_dot : Option (List ℕ) → List ℕ → (List ℕ → Option (Name × List ℕ))
    → Option (Name × List ℕ)
where_dot None bytes read = Some ([], bytes)
where_dot (Some number) bytes read = read number

-- a dot and a number for each child; at most `room` children
unfoldable pub children_at : ℕ → List ℕ → Option (Name × List ℕ)
children_at zero bytes = where_dot (behind (codes ".") bytes) bytes (λ _. None)
children_at (suc room) bytes =
    where_dot (behind (codes ".") bytes) bytes
    (λ number. number_at 1 255 number >>= λ k. with_child k.0 (children_at room k.1))

unfoldable pub name_at : List ℕ → Option (Name × List ℕ)
name_at bytes = behind (codes "0") bytes >>= children_at DEPTH

-- the cell that a drain's line names after the thread, if the model's drains name one
unfoldable pub cell_at : Model → List ℕ → Option (Option ℕ × List ℕ)
cell_at Sc bytes = None
cell_at Tso bytes = Some (None, bytes)
cell_at Pso bytes = do
  number ← behind (codes " ") bytes
  cell ← number_at 0 (CELLS - 1) number
  Some (Some cell.0, cell.1)

-- a move at the end of its line, and the rest of the text
abbrev pub ended : Move → List ℕ → Option (Move × List ℕ)
ended move bytes = behind (codes "\n") bytes >>= λ after. Some (move, after)

unfoldable pub run_at : List ℕ → Option (Move × List ℕ)
run_at bytes = do
  rest ← behind (codes "r ") bytes
  n ← name_at rest
  ended (Run n.0) n.1

unfoldable pub wake_at : List ℕ → Option (Move × List ℕ)
wake_at bytes = do
  rest ← behind (codes "w ") bytes
  n ← name_at rest
  second ← behind (codes " ") n.1
  waiter ← name_at second
  ended (Wake n.0 waiter.0) waiter.1

unfoldable pub drain_at : Model → List ℕ → Option (Move × List ℕ)
drain_at model bytes = do
  rest ← behind (codes "d ") bytes
  n ← name_at rest
  cell ← cell_at model n.1
  ended (Drain n.0 cell.0) cell.1

-- the move whose line is at the front, and the rest of the text
unfoldable pub move_at : Model → List ℕ → Option (Move × List ℕ)
move_at model bytes = or_else (run_at bytes) (or_else (wake_at bytes) (drain_at model bytes))

-- this model and the rest of the text
abbrev pub named : Model → List ℕ → Option (Model × List ℕ)
named model rest = Some (model, rest)

unfoldable pub model_at : List ℕ → Option (Model × List ℕ)
model_at bytes =
    or_else (behind (codes "sc\n") bytes >>= named Sc)
    (or_else (behind (codes "tso\n") bytes >>= named Tso)
    (behind (codes "pso\n") bytes >>= named Pso))

-- the model of the header at the front, and the rest of the text
unfoldable pub header_at : List ℕ → Option (Model × List ℕ)
header_at bytes = behind (codes "clap-schedule 1 ") bytes >>= model_at
