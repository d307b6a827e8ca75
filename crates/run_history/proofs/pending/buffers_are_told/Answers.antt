use Rattle.run_history.proofs.of_pending.Apart.{deeds_told}
use Rattle.run_history.proofs.pending.buffers_are_told.Goals as goal

pub returns : goal.returns
returns g c = λ ops model bound code moves s n t laws leads there. (deeds_told ops model bound laws code moves s leads).buffers.stands n t there
