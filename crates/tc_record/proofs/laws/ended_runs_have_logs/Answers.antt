use Rattle.tc_record.proofs.Ended.{run_has_log}
use Rattle.tc_record.proofs.OneLog.{one_log}
use Rattle.tc_record.proofs.laws.ended_runs_have_logs.Goals as goal

pub returns-clause-some : goal.returns-clause-some
returns-clause-some g c = λ ops model bound code seed steps laws lawful has. run_has_log ops model bound laws code lawful seed steps has

pub returns-clause-one : goal.returns-clause-one
returns-clause-one g c = λ model s x y a b. one_log model s x y a b
