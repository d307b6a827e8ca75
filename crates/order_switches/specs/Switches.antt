-- The number of context switches in a world. `threads` has the thread of each event, by number.
use Rattle.std.specs.Prelude.{ℕ, ◌+◌, ◌==◌, Bool, if◌then◌else◌, List, [], ◌∷◌, Option, Some, None}
use Rattle.std.specs.List.{filter_map, range_with_len}
use Rattle.std.specs.Option.{option_map_or}
use Rattle.order_formula.specs.Worlds.{World, position}

-- the number of neighbours in a list that differ
module _ {X : Type 0} (eq : X → X → Bool) where
  -- the same, for a list with x in front
  abbrev pub changes_after : X → List X → ℕ
  changes_after x [] = 0
  changes_after x (y ∷ ys) = (if eq x y then 0 else 1) + changes_after y ys

  abbrev pub changes : List X → ℕ
  changes [] = 0
  changes (x ∷ xs) = changes_after x xs

-- the thread of the event at a position, if there is one
abbrev pub thread_in : (threads positions : List ℕ) → ℕ → Option ℕ
thread_in [] _ p = None
thread_in (t ∷ threads) [] p = None
thread_in (t ∷ threads) (q ∷ positions) p = if q == p then Some t else thread_in threads positions p

abbrev pub thread_at : List ℕ → World → ℕ → Option ℕ
thread_at threads w p = thread_in threads w.positions p

-- one past the position of the failing event, or past all positions if none fails
abbrev pub end_at : Option ℕ → World → ℕ
end_at failing w = option_map_or (λ e. position w e + 1) failing 256

-- the threads of the events up to the end, in order
abbrev pub threads_in_order : List ℕ → Option ℕ → World → List ℕ
threads_in_order threads failing w =
    filter_map (thread_at threads w) (range_with_len 0 (end_at failing w))

abbrev pub switches : List ℕ → Option ℕ → World → ℕ
switches threads failing w = changes (λ t u. t == u) (threads_in_order threads failing w)
