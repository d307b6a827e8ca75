use Rattle.run_lawful.proofs.of_waits.Stuck.{stuck_rule}
use Rattle.run_lawful.proofs.waits.threads_are_stuck.Goals as goal

pub returns : goal.returns
returns g c = λ setting nodes moves t again. stuck_rule setting nodes moves again t
