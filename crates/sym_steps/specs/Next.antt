-- What the next step of a thread does, according to the terms of its path.
use Rattle.std.specs.Prelude.{◌≡◌, ℕ, ◌==◌, ℤ, List, map, Option, Some, option_map}
use Rattle.std.specs.List.{Contains, filter, find}
use Rattle.order_events.specs.run_log.Logs.{Log}
use Rattle.order_events.specs.tc_base.Names.{Name}
use Rattle.order_events.specs.tc_base.declared.request.Request.{Request}
use Rattle.order_events.specs.tc_code.Code.{Code}
use Rattle.order_events.specs.tc_code.Step.{request}
use Rattle.sym_laws.specs.run_history.History.{Deed, Did}
use Rattle.sym_laws.specs.run_history.Locals.{asks_next}
use Rattle.sym_laws.specs.run_history.Told.{steps_in, fails}
use Rattle.sym_laws.specs.run_follows.Follow.{OtherIs}
use Rattle.order_events.specs.path_walk.Paths.{Walk}
use Rattle.order_events.specs.path_walk.declared.event.Event.{Event}
use Rattle.order_events.specs.path_walk.declared.event.EventKind.{EventKind}
use Rattle.sym_laws.specs.path_laws.Deeds.{kind_of}
use Rattle.sym_laws.specs.path_laws.history.Next.{failing_next, IsNextOnPath, BranchesAlong}
use Rattle.order_events.specs.sym_terms.declared.node.Node.{Node}
use Rattle.sym_laws.specs.sym_exec.Alone.{asked_by, cell_by, outcome_by}
use Rattle.sym_laws.specs.sym_exec.Executed.{Course}
use Rattle.sym_laws.specs.sym_exec.declared.symbolic.Access.{Access}
use Rattle.sym_laws.specs.sym_exec.declared.symbolic.Test.{Test}
use Rattle.sym_laws.specs.Valued.{found}
use Rattle.sym_steps.specs.Valued.{ExecutedThread}

-- the kind of the path's event in the step k, if any
abbrev pub kind_at : Walk → ℕ → Option EventKind
kind_at w k = option_map (λ (e : Event). e.kind) (find (λ (e : Event). e.step == k) w.events)

-- the accesses of a step
abbrev pub accesses_at : Course → ℕ → List Access
accesses_at c k = filter (λ (a : Access). a.step == k) c.accesses

-- the tests of a thread's next step have their wanted outcomes
abbrev pub TestsAreMet : List Node → List ℤ → List Deed → Course → Type 0
TestsAreMet nodes loads h c =
    (x : Test) → Contains c.tests x → x.step ≡ steps_in h c.name
    → outcome_by nodes loads x ≡ x.wanted

-- the next step of the thread makes the request r, as its path says
pub record IsToldNext {code : Code} {log : Log} {nodes : List Node} (loads : List ℤ)
    (h : List Deed) (t : ExecutedThread code log nodes)
    (x : IsNextOnPath code h t.walk) (r : Request) : Type 0 where
  pub asks : asks_next code h t.name ≡ Some r
  pub request_is : r ≡ request x.local x.instr
  -- the step fails where the path does, and a branch takes the path's next outcome
  pub fails_so : (k : ℕ) (took : ℤ) (other : Option Name)
      → fails (Did t.name k r took other) ≡ failing_next log h t.walk
  pub branches : BranchesAlong t.walk x.local x.instr
  -- the step is the path's event of that number, or no event if the path has none
  pub event : (other : Option Name) → OtherIs h t.name r other
      → kind_of r other ≡ kind_at t.walk (steps_in h t.name)
  -- the step accesses the cells of the path's accesses, whatever value it takes
  pub cells : (took : ℤ) → map (λ a. a.cell) (asked_by took r)
      ≡ map (λ (a : Access). cell_by (found code log nodes).nodes loads a.cell)
      (accesses_at t.course (steps_in h t.name))
