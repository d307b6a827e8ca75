-- The steps of a mutex's regions with terms in place of their expressions.
use Rattle.std.specs.Prelude.{ℕ, ◌<◌, Bool, List, map, Option, IfSome, option_map}
use Rattle.std.specs.List.{All, filter_map}
use Rattle.tc_code.specs.Expr.{Expr}
use Rattle.sym_terms.specs.declared.node.Node.{Node}
use Rattle.mutex_regions.specs.Functions.{is_closed}
use Rattle.mutex_states.specs.Steps.{Step, Tested, pool, shapes, term_of}
use Rattle.mutex_regions.specs.declared.functions.Loaded.{Loaded}
use Rattle.mutex_clauses.specs.declared.shapes.steps.LoadTerm.{LoadTerm}
use Rattle.mutex_clauses.specs.declared.shapes.steps.TestTerm.{TestTerm}

-- a step: whether what it leaves is a function of the state, its shape, what it leaves in each
-- cell, what its loads take, and its tests
pub record Termed : Type 0 where
  pub is_closed : Bool
  pub shape : List ℕ
  pub cells : List (Option ℕ)
  pub loads : List LoadTerm
  pub tests : List TestTerm

-- all terms of some steps, the steps, and the shapes of those that leave functions of the state
pub record TermedSteps : Type 0 where
  pub terms : List Node
  pub steps : List Termed
  pub shapes : List (List ℕ)

-- a step, given the terms of its expressions
module _ (term : Expr → ℕ) where
  abbrev pub load_term : Loaded → LoadTerm
  load_term x = record { load = x.load; term = option_map term x.value }

  abbrev pub test_term : Tested → TestTerm
  test_term x = record { conjunct = x.conjunct; term = term x.test; wanted = x.wanted }

  abbrev pub termed_by : Step → Termed
  termed_by s = record {
    is_closed = is_closed s.does;
    shape = map term (filter_map (λ x. x.value) s.does.cells);
    cells = map (λ x. option_map term x.value) s.does.cells;
    loads = map load_term s.does.loads;
    tests = map test_term s.tests;
  }

module _ (cells : ℕ) (steps : List Step) where
  abbrev pub termed : Step → Termed
  termed = termed_by (term_of cells steps)

  abbrev pub termed_steps : TermedSteps
  termed_steps = record {
    terms = pool cells steps;
    steps = map termed steps;
    shapes = shapes cells steps;
  }

-- each term is below a number
pub record IsBelow (terms : ℕ) (s : Termed) : Type 0 where
  pub shape : All (λ t. t < terms) s.shape
  pub cells : All (λ o. IfSome o (λ t. t < terms)) s.cells
  pub loads : All (λ x. IfSome x.term (λ t. t < terms)) s.loads
  pub tests : All (λ x. x.term < terms) s.tests

pub record AreBelow (terms : ℕ) (s : TermedSteps) : Type 0 where
  pub steps : All (IsBelow terms) s.steps
  pub shapes : All (All (λ t. t < terms)) s.shapes
