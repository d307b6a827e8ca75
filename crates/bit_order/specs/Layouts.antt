-- How an order of events is laid out in variables: variable 1 is true, then come 8 bits for each
-- position, 32 for each load, and one for each choice. A word's first variable is its top bit.
use Rattle.std.specs.Prelude.{ℕ, zero, suc, ◌+◌, ◌*◌, true, false, if◌then◌else◌, ◌==◌, List, [], ◌∷◌, ℤ, pos, neg_ℤ, length, slice_index_or, position}
use Rattle.std.specs.List.{flat_map, range_with_len}
use Rattle.std.specs.Option.{option_map_or}
use Rattle.cnf_core.specs.Clauses.{Formula}
use Rattle.bit_gates.specs.Folded.{constant}
use Rattle.order_formula.specs.Orders.{Order, same_choice}
use Rattle.order_formula.specs.declared.order.Choice.{Choice}

-- an order of events with its pairs and choices, and the number of loads
pub record Layout : Type 0 where
  pub order : Order
  pub loads : ℕ

-- the word of the `n` variables from `first` on; its lowest bit is the last of them
unfoldable pub word_from : ℕ → ℕ → List ℤ
word_from first zero = []
word_from first (suc n) = pos (first + n) ∷ word_from first n

-- the first variable of an event's position, and of a load's value
abbrev pub position_start : ℕ → ℕ
position_start event = 2 + 8 * event

abbrev pub load_start : Layout → ℕ → ℕ
load_start y load = 2 + 8 * y.order.events + 32 * load

abbrev pub position_word : ℕ → List ℤ
position_word event = word_from (position_start event) 8

abbrev pub load_word : Layout → ℕ → List ℤ
load_word y load = word_from (load_start y load) 32

-- the variable of the first choice; the others follow it
abbrev pub choice_start : Layout → ℕ
choice_start y = 2 + 8 * y.order.events + 32 * y.loads

-- the literal of "the choice at this index is made"
abbrev pub choice_literal : Layout → ℕ → ℤ
choice_literal y number = pos (choice_start y + number)

-- the choice at an index
abbrev pub choice_at : List Choice → ℕ → Choice
choice_at choices number = slice_index_or choices number (record { sleep = 0; by = 0 })

-- two choices of the same sleep exclude each other; `start` is the variable of the first choice
abbrev pub exclusion : ℕ → List Choice → (earlier later : ℕ) → List (List ℤ)
exclusion start choices earlier later =
    if (choice_at choices earlier).sleep == (choice_at choices later).sleep
    then (neg_ℤ (pos (start + earlier)) ∷ neg_ℤ (pos (start + later)) ∷ []) ∷ []
    else []

abbrev pub exclusions : ℕ → List Choice → List (List ℤ)
exclusions start choices =
    flat_map
    (λ later. flat_map (λ earlier. exclusion start choices earlier later) (range_with_len 0 later))
    (range_with_len 0 (length choices))

-- the formula before any gate: its variables, variable 1 is true, and the exclusions
abbrev pub base : Layout → Formula
base y = record {
  vars = 1 + 8 * y.order.events + 32 * y.loads + length y.order.choices;
  clauses = (constant true ∷ []) ∷ exclusions (choice_start y) y.order.choices;
}

-- the literal of "this event ends this sleep", or false if it isn't among the choices
abbrev pub ends_literal : Layout → (sleep by : ℕ) → ℤ
ends_literal y sleep by =
    option_map_or (choice_literal y)
    (position (same_choice (record { sleep = sleep; by = by })) y.order.choices) (constant false)
