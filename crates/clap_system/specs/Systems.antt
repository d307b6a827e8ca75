-- The system of a log: what its paths and a memory model require of the order of events.
use Rattle.std.specs.Prelude.{List, [], ◌++◌, length, fold, Bool}
use Rattle.run_log.specs.Logs.{Log}
use Rattle.tc_code.specs.Code.{Code}
use Rattle.path_walk.specs.Paths.{Paths, paths_of}
use Rattle.path_execution.specs.declared.execution.Execution.{Execution}
use Rattle.store_buffers.specs.Pending.{Binding}
use Rattle.sym_terms.specs.Terms.{with_node}
use Rattle.sym_terms.specs.declared.node.Node.{Node}
use Rattle.sym_exec.specs.Executed.{Symbolic, executed}
use Rattle.order_formula.specs.Orders.{Order, order_without_questions, with_formula}
use Rattle.order_formula.specs.declared.formula.Conjunct.{Conjunct}
use Rattle.order_events.specs.lawful_order.Events.{all_events, all_sleeps}
use Rattle.memory_order.specs.Own.{own_formula, own_needs}
use Rattle.sync_order.specs.Sync.{sync_formula}
use Rattle.read_write.specs.Reading.{read_formula, read_needs}
use Rattle.clap_system.specs.Tests.{test_formula}

pub record System : Type 0 where
  pub paths : Paths
  pub symbolic : Symbolic
  -- the terms
  pub nodes : List Node
  -- the questions that the formula asks about the order
  pub order : Order
  pub formula : List Conjunct

-- the system of an execution, and the execution of a system
abbrev pub system_from : Execution → Order → List Conjunct → System
system_from x order formula = record {
  paths = x.paths;
  symbolic = x.symbolic;
  nodes = x.terms;
  order = order;
  formula = formula;
}

abbrev pub execution_of : System → Execution
execution_of s = record { paths = s.paths; symbolic = s.symbolic; terms = s.nodes }

module _ (buffered : Bool) (bound : Binding) (code : Code) (paths : Paths) where
  -- the conjuncts of all groups, over these terms
  abbrev pub rules_of : Symbolic → List Node → List Conjunct
  rules_of symbolic nodes =
      own_formula buffered bound paths symbolic nodes ++ sync_formula paths
      ++ read_formula code paths symbolic nodes ++ test_formula symbolic

  -- the execution's terms, with those that the order of a thread's events and the loads need
  abbrev pub with_needs : Symbolic → List Node → List Node
  with_needs symbolic nodes =
      let own = fold with_node nodes (own_needs buffered bound paths symbolic nodes) in
      fold with_node own (read_needs code symbolic own)

  abbrev pub system_over : Symbolic → List Node → System
  system_over symbolic nodes = record {
    paths = paths;
    symbolic = symbolic;
    nodes = nodes;
    order = with_formula
        (order_without_questions (length (all_events paths)) (length (all_sleeps paths)))
        (rules_of symbolic nodes);
    formula = rules_of symbolic nodes;
  }

  -- the system of paths
  abbrev pub system_by : System
  system_by =
      let x = executed code paths [] in system_over x.symbolic (with_needs x.symbolic x.nodes)

-- the system of a log
abbrev pub system_of : Bool → Binding → Code → Log → System
system_of buffered bound code log = system_by buffered bound code (paths_of code log)
