-- The tests of the paths in the world of a run.
use Rattle.std.proofs.Common.{ℕ, List}
use Rattle.sym_events.specs.tc_base.declared.moves.Move.{Move}
use Rattle.sym_events.specs.tc_code.Run.{Reproduces}
use Rattle.sym_steps.specs.run_history.History.{history}
use Rattle.sym_steps.proofs.run_history.Ints.{models_pass_ints}
use Rattle.sym_events.specs.path_walk.Paths.{paths_of}
use Rattle.sym_steps.specs.path_laws.Setting.{Setting}
use Rattle.sym_events.specs.sym_terms.Terms.{AreTerms}
use Rattle.sym_events.specs.sym_terms.declared.node.Node.{Node}
use Rattle.sym_steps.specs.sym_laws.Loads.{loads_in}
use Rattle.sym_steps.specs.sym_laws.Valued.{found}
use Rattle.sym_steps.proofs.sym_laws.Whole.{are_met}
use Rattle.sym_events.specs.lawful_order.Tests.{TestRule}
use Rattle.sym_events.proofs.order_events.Lists.{in_at}
use Rattle.run_lawful.specs.world.WorldOf.{world_in}
use Rattle.run_lawful.proofs.of_world.Loads.{agrees}
use Rattle.run_lawful.proofs.of_world.Run.{fits}

module _ {B : Type 0} (setting : Setting B) (nodes : List Node) (terms : AreTerms nodes) (moves : List Move)
    (again : Reproduces setting.ops setting.code setting.log moves) where
  open setting use {ops, model, bound, laws, code, lawful, log, log_is as is}

  pub test_rule : (t line : ℕ) → TestRule (found code log nodes).symbolic (found code log nodes).nodes
      (world_in ops.buffered (paths_of code log) (found code log nodes).symbolic (history ops code moves)) t line
  test_rule t line = record {
    tests = λ c x at i own.
        let loads = loads_in (found code log nodes).symbolic (history ops code moves) in
        (are_met ops code log nodes loads (models_pass_ints ops model bound laws) lawful is (fits setting moves again) terms moves again
        (agrees ops code log nodes moves again) c (t, at)).tests x (in_at c.tests x i);
  }
