-- What the literals and words of a draft say of a world.
use Rattle.std.specs.Prelude.{◌≡◌, ℕ, ◌<◌, ◌≤◌, true, false, List, Some, get_or, length, map, slice_get}
use Rattle.std.specs.List.{All}
use Rattle.sym_terms.specs.declared.node.Node.{Node}
use Rattle.order_formula.specs.declared.formula.Conjunct.{Conjunct}
use Rattle.order_formula.specs.Truth.{body_at, value_at}
use Rattle.order_formula.specs.Worlds.{World, is_before}
use Rattle.cnf_core.specs.Clauses.{Formula, Valuation, literal_true}
use Rattle.cnf_core.specs.Gates.{IsOver}
use Rattle.bit_gates.specs.Folded.{constant}
use Rattle.bit_gates.specs.Laws.{IsModel, IsOf}
use Rattle.bit_ops.specs.Laws.{IsOperand}
use Rattle.bit_ops.specs.bit_arith.Laws.{int_value}
use Rattle.bit_ops.specs.bit_words.Laws.{values}
use Rattle.bit_order.specs.Comparators.{before_literal}
use Rattle.bit_order.specs.Layouts.{base}
use Rattle.bit_order.specs.Readings.{world_of}
use Rattle.bit_terms.specs.Terms.{word_at}
use Rattle.bit_blast.specs.Drafts.{Draft}
use Rattle.bit_blast.specs.Whole.{load_words}

-- the literals and words of a draft are over the variables of a formula
pub record IsDraftOver (d : Draft) (f : Formula) : Type 0 where
  pub one : 0 < f.vars
  pub variables : (base d.layout).vars ≤ f.vars
  pub before : (first second : ℕ) → IsOf f.vars (before_literal d.layout first second)
  pub loads : All (IsOperand f) (load_words d.layout)
  pub words : All (IsOperand f) d.words
  pub roots : All (IsOf f.vars) d.roots

-- the literals and words of a draft agree with a world
pub record DraftSays (nodes : List Node) (formula : List Conjunct) (d : Draft) (w : World)
    (v : Valuation) : Type 0 where
  -- one event comes before another; the literal of two that aren't compared is false
  pub before : (first second : ℕ) → literal_true v (before_literal d.layout first second) ≡ true
      → is_before w first second ≡ true
  -- a conjunct holds
  pub roots : (k : ℕ) (c : Conjunct) → slice_get formula k ≡ Some c
      → literal_true v (get_or d.roots k (constant false)) ≡ body_at nodes w c.body
  pub count : length d.roots ≡ length formula
  -- a load takes a value, and a term has one
  pub loads : map (int_value v) (load_words d.layout) ≡ w.loads
  pub words : (term : ℕ) → int_value v (word_at d.words term) ≡ value_at nodes w term

-- clauses, literals and words of a draft are over the same variables, and literals and words agree
-- with the world of each model whose roots do
pub record DraftTells (nodes : List Node) (formula : List Conjunct) (d : Draft) : Type 0 where
  pub clauses : IsOver d.clauses
  pub over : IsDraftOver d d.clauses
  pub says : (v : Valuation) → IsModel v d.clauses
      → values v d.roots ≡ map (λ c. body_at nodes (world_of d.layout v) c.body) formula
      → DraftSays nodes formula d (world_of d.layout v) v
