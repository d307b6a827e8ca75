use Rattle.run_models.proofs.Simulation.{runs_under_more}
use Rattle.run_models.proofs.runs_under_more.Goals as goal

pub returns : goal.returns
returns g c = λ ops model bound more other less laws laws_more allows code. runs_under_more ops more model other bound less laws laws_more allows code
