use Rattle.plan_runs.proofs.of_waits.Waking.{finds_its_own, finds_none}
use Rattle.plan_runs.proofs.waits.signals_find_theirs.Goals as goal

pub returns-clause-some : goal.returns-clause-some
returns-clause-some g c = λ setting nodes w e condition n lawful signals. finds_its_own setting nodes w lawful e condition signals n

pub returns-clause-none : goal.returns-clause-none
returns-clause-none g c = λ setting nodes w e condition lawful signals. finds_none setting nodes w lawful e condition signals
