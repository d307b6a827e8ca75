-- What the clauses mean. None says anything about worlds: each world gives the new variables values
-- with which all of them hold.
use Rattle.std.specs.Prelude.{◌≡◌, ◌≢◌, ℕ, ◌<◌, ◌≤◌, ◌==◌, suc, Bool, true, List, ℤ, Some, get_or, length, map, slice_get}
use Rattle.std.specs.List.{All, IsDistinct, range_with_len}
use Rattle.order_cells.specs.sym_exec.path_walk.tc_code.Code.{Code}
use Rattle.order_cells.specs.sym_exec.path_walk.Paths.{Paths}
use Rattle.circuit_sizes.specs.sym_terms.declared.node.Node.{Node}
use Rattle.order_cells.specs.sym_exec.Executed.{Symbolic}
use Rattle.mutex_regions.specs.order_events.order_formula.declared.formula.Conjunct.{Conjunct}
use Rattle.mutex_regions.specs.order_events.order_formula.Worlds.{World}
use Rattle.cnf_core.specs.Clauses.{Formula, Valuation, literal_true}
use Rattle.bit_gates.specs.Laws.{IsGrown, IsModel, IsOf}
use Rattle.bit_order.specs.bit_ranks.Ranks.{ranks_of}
use Rattle.circuit_sizes.specs.bit_ops.bit_words.Laws.{values}
use Rattle.circuit_sizes.specs.bit_ops.Laws.{IsOperand}
use Rattle.circuit_sizes.specs.bit_ops.bit_arith.Laws.{int_value}
use Rattle.circuit_sizes.specs.bit_ops.bit_arith.int_ops.Arith.{IsInt}
use Rattle.bit_blast.specs.Drafts.{Draft}
use Rattle.bit_blast.specs.Says.{DraftSays}
use Rattle.mutex_regions.specs.InOrder.{IsInOrder}
use Rattle.mutex_states.specs.Extending.{Extends}
use Rattle.mutex_states.specs.InOrder.{RulesFollow, in_order_made}
use Rattle.mutex_states.specs.Ranks.{AreRanks, Rise, SayRanks, with_rank, with_ranks}
use Rattle.mutex_states.specs.Steps.{Goes, State, Step, StepsSay, with_turns}

-- the variables of all ranks, and the gates of each rank, which say which region has it
pub record RanksMean (count : ℕ) (before : (first second : ℕ) → ℤ) (rank : ℕ → ℕ)
    (f : Formula) : Type 0 where
  pub all : Extends (Rise count before rank) f (SayRanks count before (suc f.vars) rank)
      (with_ranks count before f)
  pub literals : (g : Formula) (k : ℕ) → (with_ranks count before f).vars ≤ g.vars
      → All (IsOf (with_rank count (suc f.vars) k g).state.vars) (with_rank count (suc f.vars) k g).word
  pub each : (g : Formula) (k : ℕ) → (with_ranks count before f).vars ≤ g.vars → k < count
      → Extends (SayRanks count before (suc f.vars) rank) g
      (λ w. SayRanks count before (suc f.vars) rank w
      × (values w (with_rank count (suc f.vars) k g).word
      ≡ map (λ region. rank region == k) (range_with_len 0 count)))
      (with_rank count (suc f.vars) k g).state

-- regions that begin at these positions have their ranks
abbrev pub PositionsRank : Type 0
PositionsRank =
    (positions : List ℕ) (before : (first second : ℕ) → ℤ) (v : Valuation)
    → IsDistinct (λ p q. p == q) positions
    → ((first second : ℕ) → first < length positions → second < length positions
    → first ≢ second → literal_true v (before first second) ≡ true
    → get_or positions first 0 < get_or positions second 0)
    → AreRanks (length positions) (λ region. get_or (ranks_of positions) region 0)
    × Rise (length positions) before (λ region. get_or (ranks_of positions) region 0) v

-- the literals say the ranks and whether all is in order, and some words have the values of a state
module _ (steps : List Step) (loads : List (List ℤ)) (roots : List ℤ) (ordered : ℤ)
    (before : (first second : ℕ) → ℤ) (start : ℕ) where
  pub record SayState (rank : ℕ → ℕ) (all : Bool) (amounts : List ℤ) (holds : ℕ → Bool)
      (words : List (List ℤ)) (state : List ℤ) (v : Valuation) : Type 0 where
    pub ranks : SayRanks (length steps) before start rank v
    pub steps_say : StepsSay steps loads roots ordered all amounts holds v
    pub words_are : map (int_value v) words ≡ state

-- while the regions go from state to state, one after another by their ranks, or where not all is in
-- order, the words after all ranks have the values of the last state
pub record StatesFollow (cells : ℕ) (steps : List Step) (loads : List (List ℤ)) (roots : List ℤ)
    (ordered : ℤ) (before : (first second : ℕ) → ℤ) (f : Formula) : Type 0 where
  pub follow : (rank : ℕ → ℕ) (all : Bool) (states : ℕ → List ℤ) (amounts : List ℤ)
      (holds : ℕ → Bool) (x : State)
      → AreRanks (length steps) rank
      → ((k : ℕ) → length (states k) ≡ cells) → ((k : ℕ) → All IsInt (states k))
      → ((region : ℕ) (s : Step) → slice_get steps region ≡ Some s → all ≡ true
      → Goes s (states (rank region)) (states (suc (rank region))) amounts holds)
      → (with_ranks (length steps) before f).vars ≤ x.formula.vars
      → All (IsOperand x.formula) x.words → length x.words ≡ cells
      → let last : State = with_turns cells steps loads roots ordered (suc f.vars) x in
      Extends
      (SayState steps loads roots ordered before (suc f.vars) rank all amounts holds x.words
      (states 0)) x.formula
      (SayState steps loads roots ordered before (suc f.vars) rank all amounts holds last.words
      (states (length steps))) last.formula

-- the literal that all is in order is made of gates, and where it is true all is in order
pub record InOrderMeans (code : Code) (paths : Paths) (symbolic : Symbolic) (nodes : List Node)
    (formula : List Conjunct) (w : World) (m : ℕ) (d : Draft) (f : Formula) : Type 0 where
  pub grown : IsGrown f (in_order_made paths symbolic formula d m f).formula
  pub literal : IsOf (in_order_made paths symbolic formula d m f).formula.vars
      (in_order_made paths symbolic formula d m f).literal
  pub means : (v : Valuation) → IsModel v (in_order_made paths symbolic formula d m f).formula
      → DraftSays nodes formula d w v
      → RulesFollow code paths symbolic nodes formula w m
      → literal_true v (in_order_made paths symbolic formula d m f).literal ≡ true
      → IsInOrder code paths symbolic nodes w m
