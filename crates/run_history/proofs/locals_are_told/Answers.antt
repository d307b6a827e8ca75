use Rattle.std.proofs.Common.{sym}
use Rattle.run_history.proofs.Frame.{holds_after}
use Rattle.run_history.proofs.Locals.{LocalsAre, keeps_locals, opening_locals}
use Rattle.run_history.proofs.locals_are_told.Goals as goal

pub returns : goal.returns
returns g c = λ ops code moves s n leads.
    sym (holds_after ops code (LocalsAre ops code) (keeps_locals ops code) (opening_locals ops code) moves s leads n)
