-- Schedules and their texts.
use Rattle.std.specs.Prelude.{ℕ, ◌<◌, Bool, false, ◌&&◌, nat_le, nat_lt, IsTrue, List, ◌++◌, length, Some, None, codes}
use Rattle.std.specs.List.{flat_map, list_all}
use Rattle.std.specs.Fmt.{decimal}
use Rattle.tc_base.specs.Names.{Name, name_text}
use Rattle.memory_models.specs.Models.{model_name}
use Rattle.tc_limits.specs.declared.limits.TheConstants.{CELLS, DEPTH, SCHEDULE_BYTES}
use Rattle.memory_models.specs.declared.model.Model.{Model}
use Rattle.memory_models.specs.declared.model.Model.TheVariants.{Tso, Pso}
use Rattle.tc_base.specs.declared.moves.Move.{Move}
use Rattle.tc_base.specs.declared.moves.Move.TheVariants.{Run, Wake, Drain}

-- the first line
abbrev pub header : Model → List ℕ
header model = codes "clap-schedule 1 " ++ (model_name model ++ codes "\n")

-- a move's line
abbrev pub line : Move → List ℕ
line (Run n) = codes "r " ++ (name_text n ++ codes "\n")
line (Wake n waiter) =
    codes "w " ++ (name_text n ++ (codes " " ++ (name_text waiter ++ codes "\n")))
line (Drain n None) = codes "d " ++ (name_text n ++ codes "\n")
line (Drain n (Some cell)) =
    codes "d " ++ (name_text n ++ (codes " " ++ (decimal cell ++ codes "\n")))

-- the header, and a line for each move
abbrev pub schedule_text : Model → List Move → List ℕ
schedule_text model moves = header model ++ flat_map line moves

-- whether a schedule may use this child number
abbrev pub is_child : ℕ → Bool
is_child child = nat_le 1 child && nat_le child 255

-- whether a schedule may use this name
abbrev pub is_name : Name → Bool
is_name n = nat_le (length n) DEPTH && list_all is_child n

-- whether a schedule may have this move: a drain names no cell under TSO, and one under PSO
abbrev pub is_move : Model → Move → Bool
is_move model (Run n) = is_name n
is_move model (Wake n waiter) = is_name n && is_name waiter
is_move Tso (Drain n None) = is_name n
is_move Pso (Drain n (Some cell)) = is_name n && nat_lt cell CELLS
is_move _ (Drain n cell) = false

-- the most lines that a schedule may have, with the header: as many as it may have bytes
abbrev pub most_lines : ℕ
most_lines = SCHEDULE_BYTES

-- the moves have a text under this model
abbrev pub HaveText : Model → List Move → Type 0
HaveText model moves = (length moves < most_lines) × IsTrue (list_all (is_move model) moves)
