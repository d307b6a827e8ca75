use Rattle.run_history.proofs.of_pending.Apart.{deeds_told}
use Rattle.run_history.proofs.pending.deeds_are_apart.Goals as goal

pub returns : goal.returns
returns g c = λ ops model bound code moves s laws leads. (deeds_told ops model bound laws code moves s leads).named.apart
