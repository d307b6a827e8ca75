use Rattle.path_log.proofs.Logs.{some_fault, one_fault, log_or_fault}
use Rattle.path_log.proofs.laws.faults_are_one.Goals as goal

pub returns-clause-some : goal.returns-clause-some
returns-clause-some c = some_fault

pub returns-clause-one : goal.returns-clause-one
returns-clause-one c = one_fault

pub returns-clause-none : goal.returns-clause-none
returns-clause-none c = log_or_fault
