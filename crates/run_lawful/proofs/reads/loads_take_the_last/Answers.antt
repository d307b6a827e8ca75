use Rattle.sym_events.specs.path_walk.Paths.{paths_of}
use Rattle.sym_steps.specs.run_history.History.{history}
use Rattle.sym_steps.specs.sym_laws.Valued.{found}
use Rattle.run_lawful.specs.world.WorldOf.{world_in}
use Rattle.run_lawful.proofs.of_world.Loads.{agrees}
use Rattle.run_lawful.proofs.of_world.Ordered.{is_order}
use Rattle.run_lawful.proofs.of_world.Run.{seen}
use Rattle.run_lawful.proofs.of_reads.Takes.{read_rule}
use Rattle.run_lawful.proofs.reads.loads_take_the_last.Goals as goal

pub returns : goal.returns
returns g c = λ setting nodes moves t line terms again.
    let paths = paths_of setting.code setting.log in
    let symbolic = (found setting.code setting.log nodes).symbolic in
    let h = history setting.ops setting.code moves in
    read_rule setting nodes terms moves again (world_in setting.ops.buffered paths symbolic h) (agrees setting.ops setting.code setting.log nodes moves again)
    (is_order setting.ops.buffered paths symbolic h (seen setting moves again)) t line
