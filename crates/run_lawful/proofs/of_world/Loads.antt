-- The loads of the world take the values that the loads of the run took.
use Rattle.std.proofs.Common.{◌≡◌, List, length}
use Rattle.sym_events.specs.tc_base.Buffers.{BufferOps}
use Rattle.sym_events.specs.run_log.Logs.{Log}
use Rattle.sym_events.specs.tc_base.declared.moves.Move.{Move}
use Rattle.sym_events.specs.tc_code.Code.{Code}
use Rattle.sym_events.specs.tc_code.Run.{Reproduces}
use Rattle.sym_steps.specs.run_history.History.{Deed, history}
use Rattle.sym_events.specs.path_walk.Paths.{paths_of}
use Rattle.sym_events.specs.sym_terms.declared.node.Node.{Node}
use Rattle.sym_events.specs.sym_exec.Executed.{Symbolic}
use Rattle.sym_steps.specs.sym_laws.Loads.{loads_in}
use Rattle.sym_steps.specs.sym_laws.Valued.{AgreesWith, found}
use Rattle.sym_steps.proofs.sym_laws.Agree.{taken_once, loads_agree, as_many}
use Rattle.sym_steps.proofs.sym_laws.Numbered.{all_numbered}

module _ {B : Type 0} (ops : BufferOps B) (code : Code) (log : Log) (nodes : List Node) (moves : List Move) (again : Reproduces ops code log moves) where
  abbrev symbolic : Symbolic
  symbolic = (found code log nodes).symbolic

  abbrev h : List Deed
  h = history ops code moves

  pub agrees : AgreesWith symbolic (loads_in symbolic h) h
  agrees =
      loads_agree symbolic h symbolic.loads (all_numbered code (paths_of code log) nodes)
      (λ n k r v o i. taken_once ops code moves again.state n k r v o again.leads i)

  pub many : length (loads_in symbolic h) ≡ symbolic.loads
  many = as_many symbolic h symbolic.loads (all_numbered code (paths_of code log) nodes)
