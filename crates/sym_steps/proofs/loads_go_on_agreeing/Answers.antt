use Rattle.sym_steps.proofs.Agree.{agree_step, agree_drain, agree_first}
use Rattle.sym_steps.proofs.loads_go_on_agreeing.Goals as goal

pub returns-clause-step : goal.returns-clause-step
returns-clause-step c = agree_step

pub returns-clause-drain : goal.returns-clause-drain
returns-clause-drain c = agree_drain

pub returns-clause-first : goal.returns-clause-first
returns-clause-first c = agree_first
