-- The world of a run is lawful, since it meets each rule.
use Rattle.std.proofs.Common.{List}
use Rattle.sym_events.specs.tc_base.declared.moves.Move.{Move}
use Rattle.sym_events.specs.tc_code.Run.{Reproduces}
use Rattle.sym_steps.specs.run_history.History.{history}
use Rattle.sym_events.specs.path_walk.Paths.{Paths, paths_of}
use Rattle.sym_steps.specs.path_laws.Setting.{Setting}
use Rattle.sym_steps.proofs.path_laws.Logs.{reproduced_fits, reproduced_alive}
use Rattle.sym_events.specs.sym_terms.Terms.{AreTerms}
use Rattle.sym_events.specs.sym_terms.declared.node.Node.{Node}
use Rattle.sym_events.specs.sym_exec.Executed.{Executed}
use Rattle.sym_steps.specs.sym_laws.Valued.{found}
use Rattle.sym_events.specs.order_formula.Worlds.{World}
use Rattle.sym_events.specs.order_formula.declared.group.Group.{Group}
use Rattle.sym_events.specs.order_formula.declared.group.Group.TheVariants.{Own, Child, Read, Mutex, Condition, Test, Stuck}
use Rattle.sym_events.specs.lawful_order.Lawful as order
use Rattle.world_plan.specs.Going.{IsLawfulWorld}
use Rattle.run_lawful.specs.world.WorldOf.{world_in}
use Rattle.run_lawful.proofs.of_world.Loads.{agrees}
use Rattle.run_lawful.proofs.of_world.Ordered.{is_order}
use Rattle.run_lawful.proofs.of_world.Run.{seen}
use Rattle.run_lawful.proofs.of_world.Worlds.{is_world, is_world_of}
use Rattle.run_lawful.proofs.of_own.Own.{own_rule}
use Rattle.run_lawful.proofs.of_own.Tests.{test_rule}
use Rattle.run_lawful.proofs.of_reads.Takes.{read_rule}
use Rattle.run_lawful.proofs.of_waits.Children.{child_rule}
use Rattle.run_lawful.proofs.of_waits.Conditions.{condition_rule}
use Rattle.run_lawful.proofs.of_waits.Mutexes.{mutex_rule}
use Rattle.run_lawful.proofs.of_waits.Stuck.{stuck_rule}

module _ {B : Type 0} (setting : Setting B) (nodes : List Node) (terms : AreTerms nodes) (moves : List Move)
    (again : Reproduces setting.ops setting.code setting.log moves) where
  open setting use {machine, ops, bound, code, log}

  abbrev paths : Paths
  paths = paths_of code log

  abbrev x : Executed
  x = found code log nodes

  abbrev w : World
  w = world_in ops.buffered paths x.symbolic (history ops code moves)

  meets : (g : Group) → order.MeetsRule ops.buffered bound code paths x.symbolic x.nodes w g
  meets (Own t) = own_rule setting nodes terms moves again t
  meets (Child c) = child_rule setting nodes moves again c
  meets (Read t line) =
      read_rule setting nodes terms moves again w (agrees ops code log nodes moves again)
      (is_order ops.buffered paths x.symbolic (history ops code moves) (seen setting moves again)) t line
  meets (Mutex m) = mutex_rule setting nodes moves again m
  meets (Condition c) = condition_rule setting nodes moves again c
  meets (Test t line) = test_rule setting nodes terms moves again t line
  meets (Stuck t) = stuck_rule setting nodes moves again t

  pub is_lawful : IsLawfulWorld setting nodes w
  is_lawful = record {
    fits = reproduced_fits machine log moves again;
    lives = reproduced_alive machine log moves again;
    terms = terms;
    world = is_world setting nodes moves again;
    of = is_world_of setting nodes moves again;
    lawful = record { meets = meets };
  }
