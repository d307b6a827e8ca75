use Rattle.std.proofs.Common.{◌∙◌, sym, true≢false}
use Rattle.path_laws.proofs.Logs.{reproduced_alive}
use Rattle.path_laws.proofs.dead_logs_are_not_reproduced.Goals as goal

pub returns : goal.returns
returns g c = λ machine log moves dead r. true≢false (sym dead ∙ reproduced_alive machine log moves r)
