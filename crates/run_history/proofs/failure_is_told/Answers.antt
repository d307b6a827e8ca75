use Rattle.std.proofs.Common.{refl}
use Rattle.run_history.proofs.Frame.{holds_after}
use Rattle.run_history.proofs.Shared.{FailureIs, keeps_failure}
use Rattle.run_history.proofs.failure_is_told.Goals as goal

pub returns : goal.returns
returns g c = λ ops code moves s leads. holds_after ops code (FailureIs ops code) (keeps_failure ops code) refl moves s leads
