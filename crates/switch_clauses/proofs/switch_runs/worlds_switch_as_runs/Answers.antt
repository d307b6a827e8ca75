use Rattle.switch_clauses.proofs.switch_runs.Laws.{worlds}
use Rattle.switch_clauses.proofs.switch_runs.worlds_switch_as_runs.Goals as goal

pub returns : goal.returns
returns g c = λ setting nodes w l small. worlds setting nodes w l small
