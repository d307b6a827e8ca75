use Rattle.orders_are_runs.proofs.Systems.{possible_is_run, run_is_possible}
use Rattle.orders_are_runs.proofs.systems_are_runs.Goals as goal

pub returns : goal.returns
returns g c s fits = (
  possible_is_run s fits,
  λ p. run_is_possible s fits p.0 p.1,
)
