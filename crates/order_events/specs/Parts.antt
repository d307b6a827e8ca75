-- Building blocks of formulas about events.
use Rattle.std.specs.Prelude.{ℕ, ◌==◌, ◌&&◌, List, [], ◌∷◌, map, true}
use Rattle.std.specs.List.{enumerate_from, flat_map, position_or_len}
use Rattle.path_walk.specs.declared.event.Event.{Event}
use Rattle.order_formula.specs.declared.literal.Atom.TheVariants.{Before}
use Rattle.order_formula.specs.declared.literal.Literal.{Literal}
use Rattle.order_formula.specs.declared.formula.Body.TheVariants.{Any}
use Rattle.order_formula.specs.declared.formula.Conjunct.{Conjunct}
use Rattle.order_formula.specs.declared.group.Group.{Group}
use Rattle.lawful_order.specs.Events.{Placed}

-- the results of f for each element and its index, concatenated
abbrev pub of_each : {A X : Type 0} → (ℕ → A → List X) → List A → List X
of_each f xs = flat_map (λ p. f p.0 p.1) (enumerate_from 0 xs)

-- the number of a thread's step among events
abbrev pub number_in : List (Placed Event) → (thread step : ℕ) → ℕ
number_in events t k = position_or_len (λ e. e.thread == t && e.it.step == k) events

-- the literal that the step k of the thread t comes before the step j of the thread u
abbrev pub comes_before : List (Placed Event) → (t k u j : ℕ) → Literal
comes_before events t k u j =
    record { atom = Before (number_in events t k) (number_in events u j); wanted = true }

-- the conjunct that one of the literals holds
abbrev pub one_of : Group → List Literal → Conjunct
one_of g literals = record { group = g; body = Any (map (λ l. l ∷ []) literals) }
