-- How a run along a log's paths agrees with their symbolic execution.
use Rattle.std.specs.Prelude.{◌≡◌, ℕ, ◌<◌, nat_lt, ℤ, pos, List, [], map, take, fold, Option, Some, slice_get, slice_index_or, if◌then◌else◌}
use Rattle.std.specs.List.{filter, flat_map}
use Rattle.std.specs.FinMap as fin
use Rattle.sym_exec.specs.run_log.Logs.{Log}
use Rattle.sym_exec.specs.tc_base.Names.{Name}
use Rattle.sym_exec.specs.tc_base.States.{Local, State, Thread}
use Rattle.sym_exec.specs.tc_base.declared.request.Request.{Request}
use Rattle.sym_exec.specs.tc_code.Code.{Code}
use Rattle.path_laws.specs.run_history.History.{Deed, Did, same}
use Rattle.sym_exec.specs.path_walk.Paths.{Walk, paths_of}
use Rattle.sym_exec.specs.sym_terms.declared.node.Node.{Node}
use Rattle.sym_exec.specs.Thread.{Doing, route_of, after_all}
use Rattle.sym_exec.specs.Executed.{Course, Symbolic, Executed, fails_at, thread_started, with_thread, nothing, executed}
use Rattle.sym_exec.specs.Alone.{slots_by, outcome_by, Asked, asked_by, asked_in}
use Rattle.sym_exec.specs.declared.symbolic.Access.{Access}
use Rattle.sym_exec.specs.declared.symbolic.Test.{Test}

-- x is an element of xs
abbrev pub IsOneOf : {X : Type 0} → X → List X → Type 0
IsOneOf x xs = (k : ℕ) × (slice_get xs k ≡ Some x)

-- every load that was done took the value that `loads` has for it
abbrev pub AgreesWith : Symbolic → List ℤ → List Deed → Type 0
AgreesWith symbolic loads h =
    (c : Course) (a : Access) (m : ℕ) (r : Request) (took : ℤ) (other : Option Name)
    → IsOneOf c symbolic.threads → IsOneOf a c.accesses → a.takes ≡ Some m
    → IsOneOf (Did c.name a.step r took other) h
    → slice_index_or loads m (pos 0) ≡ took

-- an access to a cell, with its step
pub record AskedAt : Type 0 where
  pub step : ℕ
  pub asked : Asked

-- the accesses of a deed, if the deed is a step of the thread n
abbrev pub asked_of : Name → Deed → List AskedAt
asked_of n (Did q k r took other) =
    if same n q then map (λ x. record { step = k; asked = x }) (asked_by took r) else []
asked_of n _ = []

-- a symbolic access, given the values of the loads
abbrev pub asked_at : List Node → List ℤ → Access → AskedAt
asked_at nodes loads a = record { step = a.step; asked = asked_in nodes loads a }

-- the accesses of a thread's first k steps
abbrev pub accesses_before : ℕ → Course → List Access
accesses_before k c = filter (λ a. nat_lt a.step k) c.accesses

-- a thread's tests have their wanted outcomes, and its accesses in the history are its course's
pub record IsMet (nodes : List Node) (loads : List ℤ) (h : List Deed) (c : Course) : Type 0 where
  pub tests : (x : Test) → IsOneOf x c.tests → outcome_by nodes loads x ≡ x.wanted
  pub accesses : flat_map (asked_of c.name) h ≡ map (asked_at nodes loads) c.accesses

module _ (code : Code) (log : Log) (nodes : List Node) where
  -- the symbolic execution of the log's paths
  abbrev pub found : Executed
  found = executed code (paths_of code log) nodes

  -- the symbolic execution of the log's first j threads
  abbrev pub found_before : ℕ → Executed
  found_before j =
      fold (with_thread code (paths_of code log)) (nothing nodes)
      (take j (paths_of code log).threads)

  -- the execution of the first k steps of the log's thread j
  abbrev pub execution : ℕ → Walk → ℕ → Doing
  execution j w k =
      after_all (route_of code w (fails_at (paths_of code log) j w))
      (thread_started code (found_before j) w) (take k w.places)

  module _ (loads : List ℤ) (h : List Deed) where
    -- the thread's slots, tests and accesses so far agree with their terms
    pub record HasValues (j : ℕ) (w : Walk) (c : Course) (t : Local) : Type 0 where
      pub slots : t.slots ≡ slots_by loads (execution j w t.steps)
      pub tests : (x : Test) → IsOneOf x c.tests → x.step < t.steps
          → outcome_by found.nodes loads x ≡ x.wanted
      pub accesses : flat_map (asked_of w.name) h ≡ map (asked_at found.nodes loads)
          (accesses_before t.steps c)

    -- `HasValues` holds for every thread of a state
    abbrev pub HaveValues : {B : Type 0} → State B → Type 0
    HaveValues s =
        (j : ℕ) (w : Walk) (c : Course) (t : Thread _)
        → slice_get (paths_of code log).threads j ≡ Some w
        → slice_get found.symbolic.threads j ≡ Some c → fin.get s.threads w.name ≡ Some t
        → HasValues j w c t.local
