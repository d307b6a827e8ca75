-- What symbolic execution says about a thread in a run.
use Rattle.std.specs.Prelude.{◌≡◌, ℕ, ℤ, List, map, length, Bool, Option}
use Rattle.tc_base.specs.Names.{Name}
use Rattle.tc_base.specs.Buffers.{BufferOps}
use Rattle.tc_base.specs.States.{Thread}
use Rattle.tc_base.specs.declared.moves.Move.{Move}
use Rattle.tc_code.specs.Code.{Code}
use Rattle.tc_code.specs.Step.{born, ints_of}
use Rattle.run_laws.specs.Alone.{Alone, Beginning, taken_from}
use Rattle.sym_terms.specs.Terms.{AreTerms}
use Rattle.sym_terms.specs.Values.{value_of}
use Rattle.sym_terms.specs.declared.node.Node.{Node}
use Rattle.sym_exec.specs.Thread.{Doing, AreOf, Route, started, after_all}
use Rattle.sym_exec.specs.Alone.{slots_by, GoesAlong, TakesFrom, Tells}

-- what the execution of a function is given: a path, the values of all loads, and at its start the
-- terms of its arguments, the number of its first load, and the nodes
pub record Inputs : Type 0 where
  pub outcomes : List Bool
  pub fails : Option ℕ
  pub places : List ℕ
  pub loads : List ℤ
  pub arguments : List ℕ
  pub first : ℕ
  pub nodes : List Node

module _ (code : Code) (f : ℕ) (x : Inputs) where
  abbrev pub route : Route
  route = record { code = code; function = f; outcomes = x.outcomes; fails = x.fails }

  -- the start: the first slots have the arguments' terms
  abbrev pub start : Doing
  start = started (ints_of code f) x.arguments x.first x.nodes

  -- after the steps at all places
  abbrev pub end : Doing
  end = after_all route start x.places

  -- the terms of arguments and loads have a thread's values, and the thread follows the places
  pub record Suits (arguments : List ℤ) (a : Alone) : Type 0 where
    pub terms : AreTerms x.nodes
    pub of : AreOf x.nodes x.arguments
    pub values : map (value_of x.nodes x.loads) x.arguments ≡ arguments
    pub along : GoesAlong code f x.places a
    pub takes : TakesFrom x.loads x.first end.loads a.values

  -- after these steps, the thread's slots, tests, creates and accesses agree with their terms
  pub record RunTells (slots : List ℤ) (a : Alone) : Type 0 where
    pub slots_are : slots ≡ slots_by x.loads end
    pub steps : Tells route x.loads x.places start a

module _ {B : Type 0} (ops : BufferOps B) (code : Code) where
  -- a thread at its start, with the values that its loads take in the run
  abbrev pub at_start : (n : Name) (moves : List Move) → Beginning ops code n moves → Alone
  at_start n moves b = record {
    local = (born ops code b.function b.arguments).local;
    values = taken_from ops code b.state n b.rest;
  }

  -- `RunTells` holds for the thread n in a run, for each execution that suits it
  abbrev pub ThreadTells : List Move → Name → Thread B → Type 0
  ThreadTells moves n t =
      (b : Beginning ops code n moves)
      × ((x : Inputs) → length x.places ≡ t.local.steps
      → Suits code b.function x b.arguments (at_start n moves b)
      → RunTells code b.function x t.local.slots (at_start n moves b))
