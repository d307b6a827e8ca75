-- Regions as steps, over the variables of their mutex and all accesses.
use Rattle.std.specs.Prelude.{ℕ, ◌+◌, ◌-◌, nat_lt, if◌then◌else◌, List, [], filter, length, take, Option, Some, None, option_and_then, slice_get, sum_by}
use Rattle.std.specs.List.{enumerate_from, filter_map}
use Rattle.std.specs.Option.{option_map_or}
use Rattle.tc_code.specs.Expr.{names_slots}
use Rattle.path_walk.specs.declared.event.Region.{Region}
use Rattle.sym_terms.specs.declared.node.Node.{Node}
use Rattle.sym_exec.specs.Executed.{Course, Symbolic}
use Rattle.sym_exec.specs.declared.symbolic.Access.{Access}
use Rattle.sym_exec.specs.declared.symbolic.Test.{Test}
use Rattle.order_events.specs.lawful_order.Events.{Placed}
use Rattle.mutex_regions.specs.Functions.{Doing, function_of, term_over}
use Rattle.mutex_regions.specs.declared.functions.Loaded.{Loaded}
use Rattle.mutex_regions.specs.declared.variables.Variable.{Variable}
use Rattle.mutex_states.specs.Steps.{Step, Tested}

-- how many tests some threads have, and the first conjunct of a thread's tests
abbrev pub count_tests : List Course → ℕ
count_tests threads = sum_by (λ c. length c.tests) threads

abbrev pub first_test : (conjuncts : ℕ) → List Course → (thread : ℕ) → ℕ
first_test conjuncts threads t = conjuncts - count_tests threads + count_tests (take t threads)

-- the tests after the begin of a region with these loads; `first` is the conjunct of the thread's
-- first test
module _ (nodes : List Node) (loads : List Loaded) (first begin : ℕ) where
  abbrev pub tested : ℕ × Test → Option Tested
  tested x =
      option_and_then
      (λ e. if names_slots 0 e then None
      else Some (record { conjunct = first + x.0; test = e; wanted = x.1.wanted }))
      (term_over nodes loads x.1.term)

  abbrev pub tested_after : ℕ × Test → Option Tested
  tested_after x = if nat_lt begin x.1.step then tested x else None

  abbrev pub all_tested : List Test → List Tested
  all_tested tests =
      filter_map tested (filter (λ x. nat_lt begin x.1.step) (enumerate_from 0 tests))

module _ (symbolic : Symbolic) (nodes : List Node) (conjuncts : ℕ) where
  abbrev pub tests_of : Placed Region → List Loaded → List Tested
  tests_of r loads =
      take 16
      (option_map_or
      (λ c. all_tested nodes loads (first_test conjuncts symbolic.threads r.thread) r.it.«from»
      c.tests) (slice_get symbolic.threads r.thread) [])

  module _ (variables : List Variable) (accesses : List (Placed Access)) where
    abbrev pub step_over : Placed Region → Step
    step_over r =
        let does : Doing = function_of nodes variables accesses r in
        record { does = does; tests = tests_of r does.loads }
