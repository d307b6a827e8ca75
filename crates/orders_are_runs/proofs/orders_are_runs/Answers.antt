use Rattle.clap_system.specs.path_walk.Paths.{paths_of}
use Rattle.plan_runs.specs.run_follows.Follow.{moves_for}
use Rattle.plan_runs.specs.run_history.History.{history}
use Rattle.run_lawful.proofs.Lawful.{is_lawful}
use Rattle.run_lawful.specs.world.WorldOf.{world_in}
use Rattle.plan_runs.specs.sym_laws.Valued.{found}
use Rattle.plan_runs.specs.world_plan.Plan.{plan}
use Rattle.plan_runs.proofs.Laws.{given}
use Rattle.plan_runs.proofs.Runs.{plan_reproduces}
use Rattle.orders_are_runs.proofs.orders_are_runs.Goals as goal

pub returns : goal.returns
returns g c s nodes terms = (
  λ p. (
    moves_for s.bound (plan s.ops.buffered s.code (paths_of s.code s.log) p.0),
    plan_reproduces s nodes p.0 p.1 (given s nodes p.0 p.1),
  ),
  λ p. (
    world_in s.ops.buffered (paths_of s.code s.log) (found s.code s.log nodes).symbolic (history s.ops s.code p.0),
    is_lawful s nodes terms p.0 p.1,
  ),
)
