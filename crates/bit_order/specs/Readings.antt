-- How a valuation is read as a world: positions are the ranks of their bits, loads are the ints of
-- their words, and the first choice made for a sleep says what ends it.
use Rattle.std.specs.Prelude.{ℕ, ◌&&◌, ◌==◌, Bool, List, Option, map, length}
use Rattle.std.specs.List.{find, range_with_len}
use Rattle.std.specs.Option.{option_map}
use Rattle.cnf_core.specs.Clauses.{Valuation, literal_true}
use Rattle.bit_words.specs.Laws.{value}
use Rattle.bit_arith.specs.Laws.{int_value}
use Rattle.bit_ranks.specs.Ranks.{ranks_of}
use Rattle.order_formula.specs.Worlds.{World}
use Rattle.bit_order.specs.Layouts.{Layout, position_word, load_word, choice_literal, choice_at}

-- the numbers of the position words, some of which may be equal
abbrev pub bits_in : Layout → Valuation → List ℕ
bits_in y v = map (λ event. value v (position_word event)) (range_with_len 0 y.order.events)

-- whether a choice is made and is for this sleep
abbrev pub is_made : Layout → Valuation → (sleep number : ℕ) → Bool
is_made y v sleep number =
    (choice_at y.order.choices number).sleep == sleep && literal_true v (choice_literal y number)

abbrev pub ender_in : Layout → Valuation → ℕ → Option ℕ
ender_in y v sleep =
    option_map (λ number. (choice_at y.order.choices number).by)
    (find (is_made y v sleep) (range_with_len 0 (length y.order.choices)))

abbrev pub world_of : Layout → Valuation → World
world_of y v = record {
  positions = ranks_of (bits_in y v);
  loads = map (λ load. int_value v (load_word y load)) (range_with_len 0 y.loads);
  enders = map (ender_in y v) (range_with_len 0 y.order.sleeps);
}
