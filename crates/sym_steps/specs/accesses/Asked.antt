-- The accesses of paths in a history.
use Rattle.std.specs.Prelude.{◌≡◌, ◌⊎◌, ℕ, ◌<◌, ℤ, Option, Some, None, List, [], ◌∷◌, ◌++◌, slice_get}
use Rattle.std.specs.List.{Contains}
use Rattle.order_events.specs.run_log.Logs.{Log}
use Rattle.order_events.specs.tc_base.Names.{Name}
use Rattle.order_events.specs.tc_base.declared.request.Request.{Request}
use Rattle.order_events.specs.tc_code.Code.{Code}
use Rattle.sym_laws.specs.run_history.History.{Deed, Did}
use Rattle.sym_laws.specs.run_history.Told.{steps_in, failed_in}
use Rattle.order_events.specs.path_walk.Paths.{Walk}
use Rattle.sym_laws.specs.path_laws.history.Along.{IsThread}
use Rattle.sym_laws.specs.path_laws.history.Next.{IsNextOnPath}
use Rattle.order_events.specs.sym_terms.declared.node.Node.{Node}
use Rattle.sym_laws.specs.sym_exec.Alone.{Asked, asked_by}
use Rattle.sym_laws.specs.sym_exec.Executed.{Course}
use Rattle.sym_laws.specs.sym_exec.declared.symbolic.Access.{Access}
use Rattle.sym_laws.specs.Valued.{found}

-- the step k of the thread n is done, and makes the access `asked`
pub record IsAskedIn (h : List Deed) (n : Name) (k : ℕ) (asked : Asked) : Type 0 where
  pub older : List Deed
  pub newer : List Deed
  pub request : Request
  pub took : ℤ
  pub other : Option Name
  pub there : h ≡ older ++ Did n k request took other ∷ newer
  pub asks : asked_by took request ≡ asked ∷ []

-- the access a of the thread t is done, or is its next step while no thread has failed
pub record IsReachedIn (code : Code) (log : Log) (nodes : List Node) (h : List Deed) (t : ℕ)
    (a : Access) : Type 0 where
  pub walk : Walk
  pub course : Course
  pub thread : IsThread code log t walk
  pub there : slice_get (found code log nodes).symbolic.threads t ≡ Some course
  pub among : Contains course.accesses a
  pub reached : (a.step < steps_in h walk.name)
      ⊎ ((a.step ≡ steps_in h walk.name) × (failed_in h ≡ None) × IsNextOnPath code h walk)
