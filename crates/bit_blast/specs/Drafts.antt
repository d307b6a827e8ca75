-- The clauses of a formula before its conjuncts are asserted. More clauses may be added to them, if
-- in every world they hold for some values of their new variables.
use Rattle.std.specs.Prelude.{◌≡◌, ℕ, ◌≤◌, true, IsTrue, List, [], ◌∷◌, ◌++◌, ℤ, length, map}
use Rattle.std.specs.List.{All}
use Rattle.sym_terms.specs.declared.node.Node.{Node}
use Rattle.order_formula.specs.declared.formula.Conjunct.{Conjunct}
use Rattle.order_formula.specs.Truth.{body_at, holds_at}
use Rattle.order_formula.specs.Worlds.{World}
use Rattle.cnf_core.specs.Clauses.{Formula, Valuation, satisfies, var_of}
use Rattle.cnf_core.specs.Gates.{Agree, IsOver}
use Rattle.bit_gates.specs.Laws.{IsModel}
use Rattle.bit_ops.specs.bit_words.Laws.{values}
use Rattle.bit_ops.specs.bit_words.Words.{AreWithin, Walked}
use Rattle.bit_order.specs.Comparators.{before_literal}
use Rattle.bit_order.specs.Laws.{IsWorldFor, SaysSame}
use Rattle.bit_order.specs.Layouts.{Layout, base}
use Rattle.bit_order.specs.Readings.{world_of}
use Rattle.bit_blast.specs.Blasted.{Blasted, RootsTell}
use Rattle.bit_blast.specs.Whole.{clauses_with_roots, clauses_with_terms, load_words}

pub record Draft : Type 0 where
  pub layout : Layout
  pub clauses : Formula
  -- the word of each term, and the literal of each conjunct
  pub words : List (List ℤ)
  pub roots : List ℤ

-- positions fit in 8 bits, and all literals of a draft are over the variables of its clauses
pub record DraftIsWithin (d : Draft) : Type 0 where
  pub events : d.layout.order.events ≤ 256
  pub variables : (base d.layout).vars ≤ d.clauses.vars
  pub before : (first second : ℕ) → var_of (before_literal d.layout first second) ≤ d.clauses.vars
  pub loads : All (AreWithin d.clauses.vars) (load_words d.layout)
  pub words : All (AreWithin d.clauses.vars) d.words
  pub roots : AreWithin d.clauses.vars d.roots

-- the draft of a formula over a layout and terms
abbrev pub drafted : List Node → List Conjunct → Layout → Draft
drafted nodes formula y =
    let m : Walked Formula = clauses_with_roots y nodes formula in
    record {
      layout = y;
      clauses = m.state;
      words = (clauses_with_terms y nodes).words;
      roots = m.word;
    }

-- a draft with a clause for each conjunct at the end
abbrev pub asserted : Draft → Blasted
asserted d = record {
  layout = d.layout;
  clauses = record {
    vars = d.clauses.vars;
    clauses = d.clauses.clauses ++ map (λ l. l ∷ []) d.roots;
  };
  conjuncts = length d.roots;
}

-- `e` is `d` with more clauses, which in every world hold for some values of the new variables
pub record KeepsWorlds (nodes : List Node) (formula : List Conjunct) (d e : Draft) : Type 0 where
  pub layout : e.layout ≡ d.layout
  pub words : e.words ≡ d.words
  pub roots : e.roots ≡ d.roots
  pub more : d.clauses.vars ≤ e.clauses.vars
  pub over : IsOver d.clauses → IsOver e.clauses
  pub before : (v : Valuation) → IsTrue (satisfies v e.clauses.clauses)
      → IsTrue (satisfies v d.clauses.clauses)
  -- a model of `d` whose roots tell which conjuncts are true extends to a model of `e`
  pub extends : (v : Valuation) → IsModel v d.clauses
      → values v d.roots ≡ map (λ c. body_at nodes (world_of d.layout v) c.body) formula
      → (w : Valuation) × IsModel w e.clauses × Agree d.clauses.vars v w

-- the models of the clauses correspond to the worlds of `y` in which the formula is true
pub record MeansWorlds (nodes : List Node) (formula : List Conjunct) (y : Layout)
    (b : Blasted) : Type 0 where
  pub to : (v : Valuation) → IsTrue (satisfies v b.clauses.clauses)
      → IsWorldFor y (world_of b.layout v) × (holds_at nodes (world_of b.layout v) formula ≡ true)
  pub back : (w : World) → IsWorldFor y w → holds_at nodes w formula ≡ true
      → (v : Valuation) × IsTrue (satisfies v b.clauses.clauses)
      × SaysSame y w (world_of b.layout v)

-- a draft with more clauses, once asserted, means what the formula means, conjunct by conjunct
pub record DraftMeans (nodes : List Node) (formula : List Conjunct) (y : Layout)
    (e : Draft) : Type 0 where
  pub means : MeansWorlds nodes formula y (asserted e)
  pub tells : RootsTell nodes formula y (asserted e)
