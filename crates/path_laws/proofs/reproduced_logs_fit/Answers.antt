use Rattle.path_laws.proofs.Logs.{reproduced_fits}
use Rattle.path_laws.proofs.reproduced_logs_fit.Goals as goal

pub returns : goal.returns
returns g c = λ machine log moves r. reproduced_fits machine log moves r
