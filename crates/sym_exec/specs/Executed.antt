-- The symbolic execution of all threads of the paths.
use Rattle.std.specs.Prelude.{ℕ, ◌-◌, ◌==◌, Bool, false, Option, Some, None, List, [], ◌∷◌, ◌++◌, length, take, fold, slice_get, bytes_eq, if◌then◌else◌}
use Rattle.std.specs.List.{find, last_or}
use Rattle.std.specs.Option.{option_map_or}
use Rattle.tc_base.specs.Names.{Name}
use Rattle.tc_base.specs.declared.failing.Failing.{Failing}
use Rattle.tc_base.specs.declared.failing.Failing.TheVariants as failing
use Rattle.tc_code.specs.Code.{Code}
use Rattle.tc_code.specs.Step.{ints_of}
use Rattle.path_walk.specs.Paths.{Walk, Paths}
use Rattle.sym_terms.specs.declared.node.Node.{Node}
use Rattle.sym_exec.specs.Thread.{Handed, Doing, started, route_of, after_all}
use Rattle.sym_exec.specs.declared.symbolic.Test.{Test}
use Rattle.sym_exec.specs.declared.symbolic.Access.{Access}

-- the result of executing a thread's path
pub record Course : Type 0 where
  pub name : Name
  pub tests : List Test
  pub accesses : List Access
  pub creates : List Handed

pub record Symbolic : Type 0 where
  -- one course for each thread, in the order of the paths
  pub threads : List Course
  -- the number of loads of all threads together
  pub loads : ℕ

-- the threads executed so far, and the nodes of their terms
pub record Executed : Type 0 where
  pub symbolic : Symbolic
  pub nodes : List Node

-- the terms that a thread hands to its child `number`, counted from 1
abbrev pub handed_by : ℕ → Course → List ℕ
handed_by number c = option_map_or (λ h. h.terms) (slice_get c.creates (number - 1)) []

-- the terms that `parent`, if it is among the courses, hands to its child `number`
abbrev pub handed_to : List Course → Name → ℕ → List ℕ
handed_to courses parent number =
    option_map_or (handed_by number) (find (λ c. bytes_eq c.name parent) courses) []

-- the terms of a thread's arguments; main has none
abbrev pub arguments_for : List Course → Name → List ℕ
arguments_for courses n =
    option_map_or (handed_to courses (take (length n - 1) n)) (last_or None n) []

-- whether the thread `number` is the one that failed
abbrev pub has_failed : Failing → ℕ → Bool
has_failed (failing.Thread k) number = number == k
has_failed failing.Deadlock number = false

-- the step in which a thread fails, if it does
abbrev pub fails_at : Paths → ℕ → Walk → Option ℕ
fails_at paths number w =
    if has_failed paths.failing number then Some (length w.places - 1) else None

-- a thread's execution at its start
abbrev pub thread_started : Code → Executed → Walk → Doing
thread_started code x w =
    started (ints_of code w.function)
    (arguments_for x.symbolic.threads w.name) x.symbolic.loads x.nodes

-- a thread's execution along its whole path
abbrev pub thread_done : Code → Paths → Executed → Walk → Doing
thread_done code paths x w =
    after_all (route_of code w (fails_at paths (length x.symbolic.threads) w))
    (thread_started code x w) w.places

-- appends a thread's execution
abbrev pub with_course : Executed → Name → Doing → Executed
with_course x name d = record {
  symbolic = record {
    threads =
        x.symbolic.threads
        ++ record { name = name; tests = d.tests; accesses = d.accesses; creates = d.creates } ∷ [];
    loads = d.loads;
  };
  nodes = d.nodes;
}

abbrev pub with_thread : Code → Paths → Executed → Walk → Executed
with_thread code paths x w = with_course x w.name (thread_done code paths x w)

-- the execution of no threads
abbrev pub nothing : List Node → Executed
nothing nodes = record { symbolic = record { threads = []; loads = 0 }; nodes = nodes }

-- the execution of all threads of the paths in order, starting with these nodes
abbrev pub executed : Code → Paths → List Node → Executed
executed code paths nodes = fold (with_thread code paths) (nothing nodes) paths.threads
