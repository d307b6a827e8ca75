use Rattle.run_lawful.proofs.of_waits.Mutexes.{mutex_rule}
use Rattle.run_lawful.proofs.waits.regions_are_in_order.Goals as goal

pub returns : goal.returns
returns g c = λ setting nodes moves m again. mutex_rule setting nodes moves again m
