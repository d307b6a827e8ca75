-- What the literals of conjuncts mean.
use Rattle.std.specs.Prelude.{◌≡◌, ℕ, ◌<◌, ◌≤◌, ◌≢◌, ◌==◌, Bool, true, false, IsTrue, List, ◌∷◌, get_or, map, length}
use Rattle.std.specs.List.{All, Contains, IsDistinct, list_any}
use Rattle.sym_terms.specs.declared.node.Node.{Node}
use Rattle.order_formula.specs.declared.formula.Body.{Body}
use Rattle.order_formula.specs.declared.formula.Body.TheVariants as body
use Rattle.order_formula.specs.declared.formula.Conjunct.{Conjunct}
use Rattle.order_formula.specs.declared.literal.Literal.{Literal}
use Rattle.order_formula.specs.Orders.{Order, LiteralIsAsked, pair_of, same_pair, same_choice}
use Rattle.order_formula.specs.Reads.{Read}
use Rattle.order_formula.specs.Truth.{body_at, case_at, holds_at, read_at, value_at}
use Rattle.order_formula.specs.Worlds.{World, IsWorld, is_before, is_ended}
use Rattle.cnf_core.specs.Clauses.{Formula, Valuation, literal_true}
use Rattle.cnf_core.specs.Gates.{Agree, IsOver}
use Rattle.bit_gates.specs.Folded.{Made, kept}
use Rattle.bit_gates.specs.Laws.{IsModel, IsOf, IsBit}
use Rattle.bit_ops.specs.bit_words.Laws.{values}
use Rattle.bit_ops.specs.bit_words.Words.{Walked}
use Rattle.bit_ops.specs.bit_arith.Laws.{int_value}
use Rattle.bit_ops.specs.Laws.{IsOperand}
use Rattle.bit_terms.specs.Terms.{word_at}
use Rattle.bit_blast.specs.Cases.{Parts, cases_made}
use Rattle.bit_blast.specs.Reads.{read_made}
use Rattle.bit_blast.specs.Roots.{roots, with_root_clauses}

-- each valuation has a world, and in each model of `f` the parts say what is true in that world
pub record Tells (o : Order) (nodes : List Node) (world : Valuation → World) (parts : Parts)
    (f : Formula) : Type 0 where
  pub one : 0 < f.vars
  pub worlds : (v : Valuation) → IsWorld (world v)
  pub events : (v : Valuation) → length (world v).positions ≡ o.events
  pub same : (v w : Valuation) → Agree f.vars v w → world v ≡ world w
  pub before : (first second : ℕ) → IsTrue (list_any (same_pair (pair_of first second)) o.pairs)
      → IsBit f (kept f (parts.before first second)) (λ v. is_before (world v) first second)
  pub ends : (sleep by : ℕ)
      → IsTrue (list_any (same_choice (record { sleep = sleep; by = by })) o.choices)
      → IsBit f (kept f (parts.ends sleep by)) (λ v. is_ended (world v) sleep by)
  pub words : All (IsOperand f) parts.words
  pub value : (v : Valuation) → IsModel v f → (term : ℕ)
      → int_value v (word_at parts.words term) ≡ value_at nodes (world v) term

-- a formula has grown and has the root of a conjunct whose truth is `meaning`
pub record IsRoot (f : Formula) (m : Made) (meaning : Valuation → Bool) : Type 0 where
  pub more : f.vars ≤ m.formula.vars
  pub over : IsOver f → IsOver m.formula
  pub literal : IsOf m.formula.vars m.literal
  pub before : (w : Valuation) → IsModel w m.formula → IsModel w f
  -- if the root is true in a model, so is the conjunct
  pub holds : (w : Valuation) → IsModel w m.formula → literal_true w m.literal ≡ true
      → meaning w ≡ true
  -- each old model extends to a new one in which the root is true exactly if the conjunct is
  pub extends : (v : Valuation) → IsOver f → IsModel v f
      → (w : Valuation) × IsModel w m.formula × Agree f.vars v w
      × (literal_true w m.literal ≡ meaning v)

-- the events of a read are different, and the order asks about every two of them
pub record ReadIsAsked (o : Order) (r : Read) : Type 0 where
  pub distinct : IsDistinct (λ e d. e == d) (r.event ∷ map (λ c. c.event) r.candidates)
  pub within : All (λ e. e < o.events) (r.event ∷ map (λ c. c.event) r.candidates)
  pub asked : (first second : ℕ) → Contains (r.event ∷ map (λ c. c.event) r.candidates) first
      → Contains (r.event ∷ map (λ c. c.event) r.candidates) second
      → first ≢ second → IsTrue (list_any (same_pair (pair_of first second)) o.pairs)

-- the order asks about each pair and choice of a conjunct
abbrev pub BodyIsTold : Order → Body → Type 0
BodyIsTold o (body.Any cases) = All (All (LiteralIsAsked o)) cases
BodyIsTold o (body.Read r) = ReadIsAsked o r

-- a formula has grown and has the roots of some conjuncts
pub record AreRoots (nodes : List Node) (world : Valuation → World) (f : Formula)
    (m : Walked Formula) (formula : List Conjunct) : Type 0 where
  pub more : f.vars ≤ m.state.vars
  pub over : IsOver f → IsOver m.state
  pub count : length m.word ≡ length formula
  pub literals : All (IsOf m.state.vars) m.word
  pub before : (w : Valuation) → IsModel w m.state → IsModel w f
  -- if a root is true in a model, so is its conjunct
  pub holds : (w : Valuation) → IsModel w m.state → (k : ℕ)
      → get_or (values w m.word) k false ≡ true
      → get_or (map (λ c. body_at nodes (world w) c.body) formula) k false ≡ true
  -- each old model extends to a new one in which the roots are true exactly if their conjuncts are
  pub extends : (v : Valuation) → IsOver f → IsModel v f
      → (w : Valuation) × IsModel w m.state × Agree f.vars v w
      × (values w m.word ≡ map (λ c. body_at nodes (world v) c.body) formula)

abbrev pub CasesMean : Type 0
CasesMean =
    (o : Order) (nodes : List Node) (world : Valuation → World) (parts : Parts) (f : Formula)
    (cases : List (List Literal))
    → Tells o nodes world parts f → All (All (LiteralIsAsked o)) cases
    → IsBit f (cases_made parts f cases) (λ v. list_any (case_at nodes (world v)) cases)

abbrev pub ReadsMean : Type 0
ReadsMean =
    (o : Order) (nodes : List Node) (world : Valuation → World) (parts : Parts) (f : Formula)
    (r : Read)
    → Tells o nodes world parts f → ReadIsAsked o r
    → IsRoot f (read_made parts f r) (λ v. read_at nodes (world v) r)

-- the roots are right, and the models of their clauses are those whose worlds make the formula true
pub record RootsMean : Type 0 where
  pub each : (o : Order) (nodes : List Node) (world : Valuation → World) (parts : Parts)
      (f : Formula) (formula : List Conjunct)
      → Tells o nodes world parts f → All (λ c. BodyIsTold o c.body) formula
      → AreRoots nodes world f (roots parts f formula) formula
  pub to : (o : Order) (nodes : List Node) (world : Valuation → World) (parts : Parts)
      (f : Formula) (formula : List Conjunct)
      → Tells o nodes world parts f → All (λ c. BodyIsTold o c.body) formula
      → (w : Valuation) → IsModel w (with_root_clauses parts f formula)
      → IsModel w f × (holds_at nodes (world w) formula ≡ true)
  pub back : (o : Order) (nodes : List Node) (world : Valuation → World) (parts : Parts)
      (f : Formula) (formula : List Conjunct)
      → Tells o nodes world parts f → All (λ c. BodyIsTold o c.body) formula
      → (v : Valuation) → IsOver f → IsModel v f → holds_at nodes (world v) formula ≡ true
      → (w : Valuation) × IsModel w (with_root_clauses parts f formula) × Agree f.vars v w
