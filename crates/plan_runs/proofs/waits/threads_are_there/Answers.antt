use Rattle.plan_runs.proofs.of_waits.Threads.{there_at, all_there}
use Rattle.plan_runs.proofs.waits.threads_are_there.Goals as goal

pub returns-clause-next : goal.returns-clause-next
returns-clause-next g c = λ setting nodes w e lawful.
    there_at setting nodes w lawful e.position e.deeds e.gone e.thread.index e.thread.walk e.event e.thread.there e.among e.at

pub returns-clause-all : goal.returns-clause-all
returns-clause-all g c = λ setting nodes w p h lawful gone.
    all_there setting nodes w lawful p h gone
