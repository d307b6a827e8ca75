-- The clauses of one rank, and the states after all ranks, over steps with terms.
use Rattle.std.specs.Prelude.{◌≡◌, ℕ, ◌+◌, ◌*◌, ◌&&◌, Bool, true, false, not, if◌then◌else◌, List, [], ◌∷◌, ◌++◌, ℤ, neg_ℤ, filter, fold, get_or, length, map}
use Rattle.std.specs.List.{enumerate_from, flat_map, range_with_len}
use Rattle.cnf_core.specs.Clauses.{Formula}
use Rattle.bit_gates.specs.Folded.{HasRoom, constant}
use Rattle.bit_terms.specs.Terms.{Words, term_words}
use Rattle.bit_blast.specs.Reads.{with_clauses}
use Rattle.bit_words.specs.Words.{Walked}
use Rattle.mutex_states.specs.Ranks.{with_rank}
use Rattle.mutex_states.specs.Sizes.{rank_size, turn_size}
use Rattle.mutex_states.specs.Steps.{State, Step, Turn, after_from, same_shape, shaped_from}
use Rattle.mutex_clauses.specs.shapes.Termed.{Termed, TermedSteps, termed_steps}
use Rattle.mutex_clauses.specs.turns.Terms.{cell_clauses, load_clauses, shape_clauses, test_clauses}

-- a literal of some, or false past the last
abbrev pub literal_at : List ℤ → ℕ → ℤ
literal_at literals place = get_or literals place (constant false)

-- the literals of the rank of the regions of a kind
abbrev pub among : List ℤ → (Termed → Bool) → List Termed → List ℤ
among ranked p steps =
    map (λ x. literal_at ranked x.0) (filter (λ x. p x.1) (enumerate_from 0 steps))

abbrev pub leaves : List ℕ → Termed → Bool
leaves shape s = s.is_closed && same_shape shape s.shape

abbrev pub is_open : Termed → Bool
is_open s = not s.is_closed

-- the literal of a shape is true exactly if all is in order and the region of the rank has it
abbrev pub each_clauses : (ordered shaped : ℤ) → List ℤ → List (List ℤ)
each_clauses ordered shaped ranked = map (λ l. neg_ℤ ordered ∷ neg_ℤ l ∷ shaped ∷ []) ranked

abbrev pub rule_clauses : (ordered shaped : ℤ) → List ℤ → List (List ℤ)
rule_clauses ordered shaped ranked =
    (neg_ℤ shaped ∷ ordered ∷ []) ∷ (neg_ℤ shaped ∷ ranked) ∷ each_clauses ordered shaped ranked

-- a region without a shape leaves the terms that it has in the cells
abbrev pub open_clauses : (first second : ℤ) → (terms after : List (List ℤ)) → Termed
    → List (List ℤ)
open_clauses first second terms after s =
    if s.is_closed then [] else cell_clauses first second terms after s.cells

module _ (loads : List (List ℤ)) (roots : List ℤ) (t : Turn) where
  abbrev pub shaped_clauses : List Termed → ℕ → List ℕ → List (List ℤ)
  shaped_clauses steps number shape =
      rule_clauses t.ordered (literal_at t.shaped number) (among t.ranked (leaves shape) steps)
      ++ shape_clauses (literal_at t.shaped number) (constant true) t.words t.after shape

  -- if all is in order, the region of the rank has one of the shapes, or none
  abbrev pub some_clause : List Termed → List ℤ
  some_clause steps = neg_ℤ t.ordered ∷ t.shaped ++ among t.ranked is_open steps

  abbrev pub region_clauses : ℕ → Termed → List (List ℤ)
  region_clauses region s =
      open_clauses t.ordered (literal_at t.ranked region) t.words t.after s
      ++ (load_clauses t.ordered (literal_at t.ranked region) t.words loads s.loads
      ++ flat_map (test_clauses t.ordered (literal_at t.ranked region) t.words roots) s.tests)

  abbrev pub all_shaped : List Termed → List (List ℕ) → List (List ℤ)
  all_shaped steps shapes =
      flat_map (λ p. shaped_clauses steps p.0 p.1) (enumerate_from 0 shapes)

  abbrev pub all_regions : List Termed → List (List ℤ)
  all_regions steps = flat_map (λ p. region_clauses p.0 p.1) (enumerate_from 0 steps)

  -- all clauses of the rank
  abbrev pub rank_clauses : TermedSteps → List (List ℤ)
  rank_clauses x = all_shaped x.steps x.shapes ++ some_clause x.steps ∷ all_regions x.steps

-- the state after the rank of a turn
module _ (cells : ℕ) (x : TermedSteps) (loads : List (List ℤ)) (roots : List ℤ) (ordered : ℤ) where
  -- the literals and words of a turn; `n` is the number of variables before its own
  abbrev pub turn_of : (ranked : List ℤ) → (words : List (List ℤ)) → (n : ℕ) → Turn
  turn_of ranked words n = record {
    ordered = ordered;
    ranked = ranked;
    shaped = shaped_from n (length x.shapes);
    words = words;
    after = after_from (n + length x.shapes) cells;
  }

  abbrev pub turn_over : (ranked : List ℤ) → State → State
  turn_over ranked before =
      let w : Words = term_words x.terms before.words before.formula in
      let t : Turn = turn_of ranked w.words w.formula.vars in
      let wide : Formula = record {
        vars = w.formula.vars + (length x.shapes + 32 * cells);
        clauses = w.formula.clauses;
      } in
      record {
        formula = with_clauses wide (rank_clauses loads roots t x);
        words = t.after;
      }

  -- the states after all ranks; `start` is the first variable of the ranks
  abbrev pub next_over : (start : ℕ) → State → (rank : ℕ) → State
  next_over start s rank =
      let r : Walked Formula = with_rank (length x.steps) start rank s.formula in
      turn_over r.word (record { formula = r.state; words = s.words })

  abbrev pub turns_over : (start : ℕ) → State → (count : ℕ) → State
  turns_over start s count = fold (next_over start) s (range_with_len 0 count)

-- what some steps add at one rank, and at all ranks
abbrev pub next_size : (cells : ℕ) → List Step → ℕ
next_size cells list = rank_size (length list) + turn_size cells list

abbrev pub turns_size : (cells : ℕ) → List Step → ℕ
turns_size cells list = length list * next_size cells list

-- there is room for what the steps that these are made of add
pub record HasRoomFor (size : (cells : ℕ) → List Step → ℕ) (cells : ℕ) (x : TermedSteps)
    (f : Formula) : Type 0 where
  pub list : List Step
  pub made : x ≡ termed_steps cells list
  pub room : HasRoom (size cells list) f
