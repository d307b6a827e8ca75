use Rattle.run_history.proofs.Frame.{holds_after}
use Rattle.run_history.proofs.Shared.{OwnersAre, keeps_owners, opening_owners}
use Rattle.run_history.proofs.owners_are_told.Goals as goal

pub returns : goal.returns
returns g c = λ ops code moves s m leads within.
    (holds_after ops code (OwnersAre ops code) (keeps_owners ops code) (opening_owners ops code) moves s leads).owners m within
