-- Terms of expressions over cells, while they are made.
use Rattle.std.specs.Prelude.{◌≡◌, ℕ, List, length, fold, IfSome, IsTrue}
use Rattle.std.specs.List.{All}
use Rattle.tc_code.specs.Expr.{Expr, names_slots}
use Rattle.sym_terms.specs.declared.node.Node.{Node}
use Rattle.sym_exec.specs.Making.{expr_term}
use Rattle.sym_exec.specs.Thread.{AreOf}
use Rattle.mutex_states.specs.Steps.{Step}
use Rattle.mutex_clauses.specs.declared.shapes.pool.Pool.TheInside.{Inside}

-- the terms, and those of the cells
pub record Pooled : Type 0 where
  pub nodes : List Node
  pub slots : List ℕ

abbrev pub pooled : Inside → Pooled
pooled p = record { nodes = p.terms; slots = p.slots.items }

abbrev pub IsOver : Inside → Type 0
IsOver p = AreOf p.terms p.slots.items

-- the terms with those of an expression, and of several
abbrev pub with_term : List ℕ → List Node → Expr → List Node
with_term slots nodes e = (expr_term nodes slots e).nodes

abbrev pub with_terms : List ℕ → List Node → List Expr → List Node
with_terms slots nodes es = fold (with_term slots) nodes es

-- an expression over the cells
abbrev pub IsNamed : Pooled → Expr → Type 0
IsNamed p e = IsTrue (names_slots (length p.slots) e)

-- an expression whose term is there, and its term
pub record IsIn (p : Pooled) (e : Expr) : Type 0 where
  pub named : IsNamed p e
  pub there : with_term p.slots p.nodes e ≡ p.nodes

abbrev pub term_in : Pooled → Expr → ℕ
term_in p e = (expr_term p.nodes p.slots e).term

-- P holds of all expressions of a step
pub record AllOf (P : Expr → Type 0) (s : Step) : Type 0 where
  pub cells : All (λ x. IfSome x.value P) s.does.cells
  pub loads : All (λ x. IfSome x.value P) s.does.loads
  pub tests : All (λ x. P x.test) s.tests
