use Rattle.sym_steps.specs.sym_laws.Valued.{found}
use Rattle.run_lawful.proofs.of_world.Ordered.{is_order}
use Rattle.run_lawful.proofs.of_world.Run.{done, paths, seen}
use Rattle.run_lawful.proofs.Lawful.{is_lawful}
use Rattle.run_lawful.proofs.runs_have_lawful_worlds.Goals as goal

pub returns-clause-lawful : goal.returns-clause-lawful
returns-clause-lawful g c = λ setting nodes moves terms again.
    is_lawful setting nodes terms moves again

pub returns-clause-order : goal.returns-clause-order
returns-clause-order g c = λ setting nodes moves again.
    (is_order setting.ops.buffered (paths setting moves again) (found setting.code setting.log nodes).symbolic
    (done setting moves again) (seen setting moves again)).order
