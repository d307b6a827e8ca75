-- Which of two events comes first: compares their positions, and their numbers if those are equal.
use Rattle.std.specs.Prelude.{ℕ, ◌+◌, ◌-◌, ◌*◌, ◌==◌, false, not, if◌then◌else◌, nat_lt, nat_le, List, [], ◌∷◌, ◌++◌, ℤ, neg_ℤ, Option, Some, None, fold, map, filter, slice_index_or, position}
use Rattle.std.specs.List.{flat_map, range_with_len}
use Rattle.std.specs.Option.{option_map, option_map_or}
use Rattle.cnf_core.specs.Clauses.{Formula}
use Rattle.bit_gates.specs.Folded.{Made, constant, kept}
use Rattle.bit_words.specs.Words.{Walked, less_literal}
use Rattle.order_formula.specs.Orders.{Order, same_pair, pair_of, with_pair}
use Rattle.order_formula.specs.declared.order.Pair.{Pair}
use Rattle.bit_order.specs.Clauses.{folded_clause}
use Rattle.bit_order.specs.Layouts.{Layout, position_word, base}

-- the events below `count` without one of them
abbrev pub others : (count event : ℕ) → List ℕ
others count event = filter (λ other. not (other == event)) (range_with_len 0 count)

-- the pairs of each of some events with every other event below `count`
abbrev pub pairs_with : (count : ℕ) → List ℕ → List Pair
pairs_with count events = flat_map (λ event. map (pair_of event) (others count event)) events

-- an order that also asks about each of some events and every other event
abbrev pub completed : Order → List ℕ → Order
completed o events = fold with_pair o (pairs_with o.events events)

-- whether the lesser event of a pair comes before the greater
unfoldable pub compared_pair : Formula → Pair → Made
compared_pair f p =
    less_literal (kept f (constant (nat_lt p.lesser p.greater))) (position_word p.lesser)
    (position_word p.greater)

-- appends the literal of one more pair
abbrev pub with_comparator : Walked Formula → Pair → Walked Formula
with_comparator m p =
    let here : Made = compared_pair m.state p in
    record { state = here.formula; word = m.word ++ here.literal ∷ [] }

-- the literals of all pairs that the order asks about, in order
abbrev pub comparators : Layout → Walked Formula
comparators y = fold with_comparator (record { state = base y; word = [] }) y.order.pairs

-- the literal of a pair, if the order asks about it
abbrev pub comparator : Layout → ℕ → ℕ → Option ℤ
comparator y first second =
    option_map (λ number. slice_index_or (comparators y).word number (constant false))
    (position (same_pair (pair_of first second)) y.order.pairs)

-- the literal of "one event comes before another", or false if the order doesn't ask about them
abbrev pub before_literal : Layout → (first second : ℕ) → ℤ
before_literal y first second =
    option_map_or (λ l. if nat_le first second then l else neg_ℤ l) (comparator y first second)
    (constant false)

-- transitivity in both directions for three events, from the literals of their pairs
abbrev pub clauses_of_three : (first_second second_third first_third : ℤ) → List (List ℤ)
clauses_of_three a b c =
    folded_clause (neg_ℤ a ∷ neg_ℤ b ∷ c ∷ []) ++ folded_clause (a ∷ b ∷ neg_ℤ c ∷ [])

-- the same, if all three pairs have literals
abbrev pub where_asked : ℤ → Option ℤ → Option ℤ → List (List ℤ)
where_asked a (Some b) (Some c) = clauses_of_three a b c
where_asked a (Some b) None = []
where_asked a None _ = []

-- transitivity for a pair and a third event
abbrev pub transitive : Layout → Pair → ℕ → List (List ℤ)
transitive y p third =
    where_asked (before_literal y p.lesser p.greater) (comparator y p.greater third)
    (comparator y p.lesser third)

-- transitivity for each pair and each event after both
abbrev pub transitivity : Layout → List (List ℤ)
transitivity y =
    flat_map
    (λ p. flat_map (transitive y p)
    (range_with_len (p.greater + 1) (y.order.events - (p.greater + 1)))) y.order.pairs

-- the formula of an order: its variables, the comparisons of its pairs, and transitivity
abbrev pub ordered : Layout → Formula
ordered y =
    record {
      vars = (comparators y).state.vars;
      clauses = (comparators y).state.clauses
          ++ transitivity y;
    }

-- an upper bound on the variables, and on the clauses, if no pair and no choice occurs twice
abbrev pub size_of : Layout → ℕ
size_of y =
    2 + 8 * y.order.events + 32 * y.loads + y.order.sleeps * y.order.events * (1 + y.order.events)
    + y.order.events * y.order.events * (96 + 2 * y.order.events)
