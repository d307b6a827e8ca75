-- The states of a mutex's cells from one rank to the next, as clauses. A region is a step from the
-- state before it to the state after it.
use Rattle.std.specs.Prelude.{◌≡◌, ℕ, suc, ◌+◌, ◌-◌, ◌*◌, ◌/◌, ◌%◌, ◌<◌, ◌==◌, ◌&&◌, Bool, true, false, not, nat_lt, if◌then◌else◌, IsTrue, List, [], ◌∷◌, ◌++◌, ℤ, pos, neg_ℤ, fold, filter, get_or, length, map, slice_get, Option, Some}
use Rattle.std.specs.Int.{bit_at, cast_unsigned, w32}
use Rattle.std.specs.List.{All, Contains, enumerate_from, filter_map, flat_map, range_with_len}
use Rattle.std.specs.Option.{option_map_or}
use Rattle.std.specs.Ordering.{int_eq}
use Rattle.indexmap.specs.IndexSet.{insert_key}
use Rattle.order_cells.specs.sym_exec.path_walk.tc_code.Expr as expr
use Rattle.order_cells.specs.sym_exec.path_walk.tc_code.Expr.{Expr}
use Rattle.circuit_sizes.specs.sym_terms.declared.node.Node.{Node}
use Rattle.circuit_sizes.specs.sym_terms.declared.node.Node.TheVariants.{Symbol}
use Rattle.order_cells.specs.sym_exec.Making.{expr_term, expr_terms}
use Rattle.cnf_core.specs.Clauses.{Formula, Valuation, literal_true}
use Rattle.bit_gates.specs.Folded.{constant}
use Rattle.bit_gates.specs.Laws.{IsOf}
use Rattle.circuit_sizes.specs.bit_ops.Laws.{IsOperand}
use Rattle.circuit_sizes.specs.bit_ops.bit_arith.Laws.{int_value}
use Rattle.bit_order.specs.Layouts.{word_from}
use Rattle.circuit_sizes.specs.bit_terms.Terms.{Words, term_words, word_at}
use Rattle.bit_blast.specs.Reads.{value_clauses, with_clauses}
use Rattle.circuit_sizes.specs.bit_ops.bit_words.Words.{Walked}
use Rattle.mutex_states.specs.Ranks.{with_rank}
use Rattle.mutex_regions.specs.Functions.{Doing, is_closed}
use Rattle.mutex_regions.specs.declared.functions.Holding.{Holding}
use Rattle.mutex_regions.specs.declared.functions.Loaded.{Loaded}

-- a test of a region: the number of its conjunct, its expression over the state, and its outcome
pub record Tested : Type 0 where
  pub conjunct : ℕ
  pub test : Expr
  pub wanted : Bool

-- what a region does, with its tests
pub record Step : Type 0 where
  pub does : Doing
  pub tests : List Tested

-- a step goes from the state `old` to the state `new`: its loads have these amounts, and the tests
-- whose conjuncts hold come out as wanted
pub record Goes (s : Step) (old new amounts : List ℤ) (holds : ℕ → Bool) : Type 0 where
  pub cells : (k : ℕ) (x : Holding) (e : Expr) → slice_get s.does.cells k ≡ Some x
      → x.value ≡ Some e → slice_get new k ≡ Some (expr.value_of e old)
  pub loads : (l : Loaded) (e : Expr) → Contains s.does.loads l → l.value ≡ Some e
      → get_or amounts l.load (pos 0) ≡ expr.value_of e old
  pub tests : (t : Tested) → Contains s.tests t → holds t.conjunct ≡ true
      → not (int_eq (expr.value_of t.test old) (pos 0)) ≡ t.wanted

-- all expressions of a step
abbrev pub exprs_of : Step → List Expr
exprs_of s =
    filter_map (λ x. x.value) s.does.cells
    ++ (filter_map (λ x. x.value) s.does.loads ++ map (λ x. x.test) s.tests)

-- the shapes of regions: what they leave in each cell, as terms
abbrev pub same_shape : List ℕ → List ℕ → Bool
same_shape [] [] = true
same_shape (x ∷ xs) (y ∷ ys) = x == y && same_shape xs ys
same_shape _ _ = false

-- the literals and words around one rank
pub record Turn : Type 0 where
  -- all is in order
  pub ordered : ℤ
  -- each region has the rank
  pub ranked : List ℤ
  -- all is in order, and the region of the rank has each shape
  pub shaped : List ℤ
  -- the words of the terms over the state before, and the state after
  pub words : List (List ℤ)
  pub after : List (List ℤ)

module _ (cells : ℕ) (steps : List Step) where
  -- the terms of all expressions of the steps, over a symbol for each cell of the state
  abbrev pub pool : List Node
  pool =
      (expr_terms (map Symbol (range_with_len 0 cells)) (range_with_len 0 cells)
      (flat_map exprs_of steps)).nodes

  -- the term of one of these expressions
  abbrev pub term_of : Expr → ℕ
  term_of e = (expr_term pool (range_with_len 0 cells) e).term

  abbrev pub shape_of : Step → List ℕ
  shape_of s = map term_of (filter_map (λ x. x.value) s.does.cells)

  -- the shapes of the regions that leave functions of the state, each once
  abbrev pub shapes : List (List ℕ)
  shapes =
      fold (insert_key same_shape) [] (map shape_of (filter (λ s. is_closed s.does) steps))

  abbrev pub has_shape : List ℕ → Step → Bool
  has_shape shape s = is_closed s.does && same_shape shape (shape_of s)

  -- `loads` are the words of the loads, and `roots` the literals of the conjuncts
  module _ (loads : List (List ℤ)) (roots : List ℤ) (t : Turn) where
    abbrev pub ranked : ℕ → ℤ
    ranked region = get_or t.ranked region (constant false)

    -- the literals of the rank of the regions of a kind
    abbrev pub ranked_among : (Step → Bool) → List ℤ
    ranked_among p = map (λ x. ranked x.0) (filter (λ x. p x.1) (enumerate_from 0 steps))

    -- the literal of a shape is true exactly if all is in order and the region of the rank has it
    abbrev pub shape_clauses : List ℕ → (shaped : ℤ) → List (List ℤ)
    shape_clauses shape shaped =
        (neg_ℤ shaped ∷ t.ordered ∷ []) ∷ (neg_ℤ shaped ∷ ranked_among (has_shape shape))
        ∷ map (λ l. neg_ℤ t.ordered ∷ neg_ℤ l ∷ shaped ∷ []) (ranked_among (has_shape shape))

    -- if all is in order, the region of the rank has one of the shapes, or none
    abbrev pub some_clause : List ℤ
    some_clause = neg_ℤ t.ordered ∷ t.shaped ++ ranked_among (λ s. not (is_closed s.does))

    -- a region of a shape leaves its terms in the cells
    abbrev pub left_clauses : List ℕ → (shaped : ℤ) → List (List ℤ)
    left_clauses shape shaped =
        flat_map
        (λ x. value_clauses shaped (constant true) (get_or t.after x.0 []) (word_at t.words x.1))
        (enumerate_from 0 shape)

    -- a word has the value of an expression, if all is in order and the region has the rank
    abbrev pub equal_clauses : (region : ℕ) → (word : List ℤ) → Option Expr → List (List ℤ)
    equal_clauses region word e =
        option_map_or
        (λ f. value_clauses t.ordered (ranked region) word (word_at t.words (term_of f))) e []

    -- a region without a shape leaves the terms that it has in the cells
    abbrev pub open_clauses : ℕ → Step → List (List ℤ)
    open_clauses region s =
        if is_closed s.does then []
        else flat_map (λ x. equal_clauses region (get_or t.after x.0 []) x.1.value)
        (enumerate_from 0 s.does.cells)

    -- the loads of the region take the values of their terms
    abbrev pub load_clauses : ℕ → Step → List (List ℤ)
    load_clauses region s =
        flat_map (λ x. equal_clauses region (get_or loads x.load []) x.value) s.does.loads

    -- a test of the region, if its conjunct holds, comes out as wanted
    abbrev pub test_clauses : ℕ → Tested → List (List ℤ)
    test_clauses region x =
        let word = word_at t.words (term_of x.test) in
        let unless =
        neg_ℤ t.ordered ∷ neg_ℤ (ranked region)
        ∷ neg_ℤ (get_or roots x.conjunct (constant false)) ∷ [] in
        if x.wanted then (unless ++ word) ∷ [] else map (λ l. unless ++ neg_ℤ l ∷ []) word

    abbrev pub region_clauses : ℕ → Step → List (List ℤ)
    region_clauses region s =
        open_clauses region s
        ++ (load_clauses region s ++ flat_map (test_clauses region) s.tests)

    -- all clauses of the rank
    abbrev pub turn_clauses : List (List ℤ)
    turn_clauses =
        flat_map
        (λ x. let shaped = get_or t.shaped x.0 (constant false) in
        shape_clauses x.1 shaped ++ left_clauses x.1 shaped) (enumerate_from 0 shapes)
        ++ some_clause ∷ flat_map (λ x. region_clauses x.0 x.1) (enumerate_from 0 steps)

-- a formula, and the words of a state
pub record State : Type 0 where
  pub formula : Formula
  pub words : List (List ℤ)

-- the new variables of a rank, after the first n: a literal for each shape, a word for each cell
abbrev pub shaped_from : (n shapes : ℕ) → List ℤ
shaped_from n shapes = map (λ k. pos (suc n + k)) (range_with_len 0 shapes)

abbrev pub after_from : (n cells : ℕ) → List (List ℤ)
after_from n cells = map (λ k. word_from (suc n + 32 * k) 32) (range_with_len 0 cells)

-- a formula with the state after the rank of a turn
abbrev pub with_turn : (cells : ℕ) → List Step → (loads : List (List ℤ)) → (roots : List ℤ)
    → (ordered : ℤ) → (ranked : List ℤ) → State → State
with_turn cells steps loads roots ordered ranked before =
    let w : Words = term_words (pool cells steps) before.words before.formula in
    let n : ℕ = w.formula.vars in
    let many : ℕ = length (shapes cells steps) in
    let t : Turn = record {
      ordered = ordered;
      ranked = ranked;
      shaped = shaped_from n many;
      words = w.words;
      after = after_from (n + many) cells;
    } in
    let wide : Formula = record { vars = n + (many + 32 * cells); clauses = w.formula.clauses } in
    record {
      formula = with_clauses wide (turn_clauses cells steps loads roots t);
      words = t.after;
    }

-- the states after all ranks, one after another; `start` is the first variable of the ranks
module _ (cells : ℕ) (steps : List Step) (loads : List (List ℤ)) (roots : List ℤ) (ordered : ℤ)
    (start : ℕ) where
  abbrev pub with_next : State → (rank : ℕ) → State
  with_next x rank =
      let r : Walked Formula = with_rank (length steps) start rank x.formula in
      with_turn cells steps loads roots ordered r.word
      (record { formula = r.state; words = x.words })

  abbrev pub with_turns : State → State
  with_turns x = fold with_next x (range_with_len 0 (length steps))

-- the values of the new variables of a rank: whether its region has each shape, where all is in
-- order, and the bits of the state after it
abbrev pub state_bit : (state : List ℤ) → (place : ℕ) → Bool
state_bit state place =
    bit_at (cast_unsigned w32 (get_or state (place / 32) (pos 0))) (31 - place % 32) == 1

abbrev pub turn_value : (cells : ℕ) → List Step → (ordered : Bool) → Step → (new : List ℤ) → ℕ
    → Bool
turn_value cells steps ordered s new k =
    if nat_lt k (length (shapes cells steps))
    then ordered && has_shape cells steps (get_or (shapes cells steps) k []) s
    else state_bit new (k - length (shapes cells steps))

module _ (cells : ℕ) (steps : List Step) (loads : List (List ℤ)) (roots : List ℤ) (ordered : ℤ)
    (ranked : List ℤ) (before : State) where
  -- the literals and words are over the variables of the formula, and the expressions over the cells
  pub record IsTurn : Type 0 where
    pub one : 0 < before.formula.vars
    pub ordered_in : IsOf before.formula.vars ordered
    pub ranked_in : (region : ℕ) → region < length steps
        → IsOf before.formula.vars (get_or ranked region (constant false))
    pub words_in : All (IsOperand before.formula) before.words
    pub loads_in : (s : Step) (x : Loaded) → Contains steps s → Contains s.does.loads x
        → IsOperand before.formula (get_or loads x.load [])
    pub roots_in : (s : Step) (x : Tested) → Contains steps s → Contains s.tests x
        → IsOf before.formula.vars (get_or roots x.conjunct (constant false))
    pub count : length before.words ≡ cells
    pub held : (s : Step) → Contains steps s → length s.does.cells ≡ cells
    pub named : All (λ e. IsTrue (expr.names_slots cells e)) (flat_map exprs_of steps)
    pub ints : All expr.HasInts (flat_map exprs_of steps)

  -- what they say: whether all is in order, which region has the rank, and the values of the words
  pub record TurnSays (all : Bool) (which : ℕ) (s : Step) (old values : List ℤ)
      (holds : ℕ → Bool) (v : Valuation) : Type 0 where
    pub ordered_is : literal_true v ordered ≡ all
    pub ranked_is : (region : ℕ) → region < length steps
        → literal_true v (get_or ranked region (constant false)) ≡ (region == which)
    pub before_is : map (int_value v) before.words ≡ old
    pub loads_are : (x : Loaded) → Contains s.does.loads x
        → int_value v (get_or loads x.load []) ≡ get_or values x.load (pos 0)
    pub roots_are : (x : Tested) → Contains s.tests x
        → literal_true v (get_or roots x.conjunct (constant false)) ≡ holds x.conjunct

-- the literals and words of all steps are over the variables of a formula
pub record AreSteps (cells : ℕ) (steps : List Step) (loads : List (List ℤ)) (roots : List ℤ)
    (ordered : ℤ) (f : Formula) : Type 0 where
  pub one : 0 < f.vars
  pub ordered_in : IsOf f.vars ordered
  pub loads_in : (s : Step) (x : Loaded) → Contains steps s → Contains s.does.loads x
      → IsOperand f (get_or loads x.load [])
  pub roots_in : (s : Step) (x : Tested) → Contains steps s → Contains s.tests x
      → IsOf f.vars (get_or roots x.conjunct (constant false))
  pub held : (s : Step) → Contains steps s → length s.does.cells ≡ cells
  pub named : All (λ e. IsTrue (expr.names_slots cells e)) (flat_map exprs_of steps)
  pub ints : All expr.HasInts (flat_map exprs_of steps)

-- what they say: whether all is in order, what the loads take, and which conjuncts hold
pub record StepsSay (steps : List Step) (loads : List (List ℤ)) (roots : List ℤ) (ordered : ℤ)
    (all : Bool) (amounts : List ℤ) (holds : ℕ → Bool) (v : Valuation) : Type 0 where
  pub ordered_is : literal_true v ordered ≡ all
  pub loads_are : (s : Step) (x : Loaded) → Contains steps s → Contains s.does.loads x
      → int_value v (get_or loads x.load []) ≡ get_or amounts x.load (pos 0)
  pub roots_are : (s : Step) (x : Tested) → Contains steps s → Contains s.tests x
      → literal_true v (get_or roots x.conjunct (constant false)) ≡ holds x.conjunct
