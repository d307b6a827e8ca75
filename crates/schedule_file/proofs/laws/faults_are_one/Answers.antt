use Rattle.schedule_file.proofs.Schedules.{some_fault, one_fault, schedule_or_fault}
use Rattle.schedule_file.proofs.laws.faults_are_one.Goals as goal

pub returns-clause-some : goal.returns-clause-some
returns-clause-some c = some_fault

pub returns-clause-one : goal.returns-clause-one
returns-clause-one c = one_fault

pub returns-clause-none : goal.returns-clause-none
returns-clause-none c = schedule_or_fault
