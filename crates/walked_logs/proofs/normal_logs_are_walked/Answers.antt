use Rattle.walked_logs.proofs.Failures.{failure_made_up}
use Rattle.walked_logs.proofs.Deadlocks.{deadlock_made_up}
use Rattle.walked_logs.proofs.normal_logs_are_walked.Goals as goal

pub returns-clause-failures : goal.returns-clause-failures
returns-clause-failures c = λ code log normal. failure_made_up code log normal

pub returns-clause-deadlocks : goal.returns-clause-deadlocks
returns-clause-deadlocks c = λ code log lawful normal. deadlock_made_up code log lawful normal
