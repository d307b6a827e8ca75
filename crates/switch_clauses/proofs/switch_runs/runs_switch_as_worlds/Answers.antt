use Rattle.switch_clauses.proofs.switch_runs.Laws.{runs}
use Rattle.switch_clauses.proofs.switch_runs.runs_switch_as_worlds.Goals as goal

pub returns : goal.returns
returns g c = λ setting nodes moves few again. runs setting nodes moves again few
