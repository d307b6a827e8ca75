-- Levels of events as clauses. A level is a lower bound on the switches before its event: it rises
-- from an event to each later one of another thread, and is at most `most`.
use Rattle.std.specs.Prelude.{ℕ, zero, suc, ◌+◌, ◌*◌, ◌==◌, true, false, if◌then◌else◌, nat_lt, List, [], ◌∷◌, ◌++◌, ℤ, pos, neg_ℤ, get_or, Option, Some, None}
use Rattle.std.specs.List.{flat_map, range_with_len}
use Rattle.cnf_core.specs.Clauses.{Formula}
use Rattle.bit_gates.specs.Folded.{constant}
use Rattle.bit_order.specs.Clauses.{folded_clause}
use Rattle.bit_order.specs.Comparators.{before_literal}
use Rattle.bit_order.specs.Layouts.{Layout}

-- the literal of "this event's level is at least `least`"; no level is above `most`
abbrev pub level_literal : (start most event least : ℕ) → ℤ
level_literal start most event zero = constant true
level_literal start most event (suc j) =
    if nat_lt j most then pos (start + (event * most + j)) else constant false

module _ (y : Layout) (threads : List ℕ) (failing : Option ℕ) where
  -- the literal of "this event counts": it is the failing event or before it, or no event fails
  abbrev pub counts_by : Option ℕ → ℕ → ℤ
  counts_by None event = constant true
  counts_by (Some last) event = if event == last then constant true else before_literal y event last

  abbrev pub counts_literal : ℕ → ℤ
  counts_literal event = counts_by failing event

  module _ (start most : ℕ) where
    -- if `first`, of level `least`, is before `second`, which counts, `second` has a higher level
    abbrev pub rise : (first second least : ℕ) → List (List ℤ)
    rise first second least =
        folded_clause
        (neg_ℤ (before_literal y first second) ∷ neg_ℤ (counts_literal second)
        ∷ neg_ℤ (level_literal start most first least)
        ∷ level_literal start most second (suc least) ∷ [])

    -- the same for all levels, if the two events are of different threads
    abbrev pub rises : (first second : ℕ) → List (List ℤ)
    rises first second =
        if get_or threads first 0 == get_or threads second 0 then []
        else flat_map (rise first second) (range_with_len 0 (most + 1))

    abbrev pub rises_from : ℕ → List (List ℤ)
    rises_from first = flat_map (rises first) (range_with_len 0 y.order.events)

    -- the same for all pairs of events
    abbrev pub level_clauses : List (List ℤ)
    level_clauses = flat_map rises_from (range_with_len 0 y.order.events)

  -- a formula with levels of at most `most` added
  abbrev pub with_levels : ℕ → Formula → Formula
  with_levels most f =
      record {
        vars = f.vars + y.order.events * most;
        clauses = f.clauses
            ++ level_clauses (suc f.vars) most;
      }
