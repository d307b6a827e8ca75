use Rattle.path_laws.proofs.of_history.Stays.{step_stays, drain_stays}
use Rattle.path_laws.proofs.history.deeds_stay_on_paths.Goals as goal

pub returns-clause-step : goal.returns-clause-step
returns-clause-step g c = λ setting h t x k r took other going. step_stays setting h t going x k r took other

pub returns-clause-drain : goal.returns-clause-drain
returns-clause-drain g c = λ machine log h n k cell v. drain_stays machine log h n k cell v
