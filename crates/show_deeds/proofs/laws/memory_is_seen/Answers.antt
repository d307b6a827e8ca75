use Rattle.show_deeds.proofs.Kept.{seen_is}
use Rattle.show_deeds.proofs.laws.memory_is_seen.Goals as goal

pub returns : goal.returns
returns g c = λ ops model bound code moves s laws leads. (seen_is ops model bound laws code moves s leads).memory
