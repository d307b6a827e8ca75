use Rattle.show_deeds.proofs.Kept.{seen_is}
use Rattle.show_deeds.proofs.Kept as kept
use Rattle.show_deeds.proofs.laws.first_drains.Goals as goal

pub returns : goal.returns
returns g c = λ ops model bound code moves s n t form laws leads here may.
    kept.first_drains ops model bound laws code s _ n t form (seen_is ops model bound laws code moves s leads) here may
