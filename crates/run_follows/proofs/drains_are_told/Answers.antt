use Rattle.run_history.specs.History.{history}
use Rattle.run_follows.proofs.Enabled.{told, drain_iff}
use Rattle.run_follows.proofs.drains_are_told.Goals as goal

pub returns : goal.returns
returns g c = λ ops model bound code moves s n t form laws leads there.
    drain_iff ops model bound laws code s (history ops code moves) (told ops model bound laws code moves s leads) n t there form
