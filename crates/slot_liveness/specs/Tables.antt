-- Tables of the slots that are live at each place of a function.
use Rattle.std.specs.Prelude.{ℕ, Bool, true, false, List, [], Option, Some, None, slice_get, slice_index_or}
use Rattle.std.specs.Option.{option_map_or}
use Rattle.pure_turns.specs.Live.{Liveness}

-- for each place and slot of a function, whether the slot is live there
abbrev pub Table : Type 0
Table = List (List Bool)

-- whether a slot is live at a place, by the table of a function; a slot that a row doesn't have is
abbrev pub is_live_in : Table → (place slot : ℕ) → Bool
is_live_in rows place k =
    option_map_or (λ row. slice_index_or row k true) (slice_get rows place) false

-- the liveness that the tables of all functions are; without tables, each slot is live
abbrev pub liveness : Option (List Table) → Liveness
liveness None f place k = true
liveness (Some tables) f place k = is_live_in (slice_index_or tables f []) place k
