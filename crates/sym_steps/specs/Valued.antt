-- Histories along the paths with the values of their loads, and executed threads.
use Rattle.std.specs.Prelude.{◌≡◌, ℤ, List, Some, slice_get}
use Rattle.order_events.specs.run_log.Logs.{Log}
use Rattle.order_events.specs.tc_code.Code.{Code}
use Rattle.sym_laws.specs.path_laws.Setting.{Setting}
use Rattle.sym_laws.specs.path_laws.history.Along.{HistoryAlong, PathThread}
use Rattle.order_events.specs.sym_terms.Terms.{AreTerms}
use Rattle.order_events.specs.sym_terms.declared.node.Node.{Node}
use Rattle.sym_laws.specs.sym_exec.Executed.{Course}
use Rattle.sym_laws.specs.Valued.{AgreesWith, found}

-- a history along the paths in which the loads took these values
pub record ValuedHistory {B : Type 0} (s : Setting B) (nodes : List Node)
    (loads : List ℤ) : Type 0 where
  pub history : HistoryAlong s
  pub open history use *
  pub terms : AreTerms nodes
  pub agrees : AgreesWith (found s.code s.log nodes).symbolic loads history.deeds

-- a thread of the paths, and the course of its symbolic execution
pub record ExecutedThread (code : Code) (log : Log) (nodes : List Node) : Type 0 where
  pub thread : PathThread code log
  pub open thread use *
  pub course : Course
  pub executed : slice_get (found code log nodes).symbolic.threads thread.index ≡ Some course
