use Rattle.run_lawful.proofs.of_world.Ordered.{is_order}
use Rattle.run_lawful.proofs.of_world.Run.{done, paths, seen}
use Rattle.sym_steps.specs.sym_laws.Valued.{found}
use Rattle.run_lawful.proofs.world.places_are_ordered.Goals as goal

pub returns : goal.returns
returns g c = λ setting nodes moves again.
    is_order setting.ops.buffered (paths setting moves again) (found setting.code setting.log nodes).symbolic
    (done setting moves again) (seen setting moves again)
