use Rattle.run_models.proofs.Simulation.{reproduces_under_more}
use Rattle.run_models.proofs.reproduces_under_more.Goals as goal

pub returns : goal.returns
returns g c =
    λ ops model bound more other less laws laws_more allows code. reproduces_under_more ops more model other bound less laws laws_more allows code
