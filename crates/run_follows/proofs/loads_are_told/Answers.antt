use Rattle.run_history.specs.History.{history}
use Rattle.run_follows.proofs.Enabled.{told, load_told}
use Rattle.run_follows.proofs.loads_are_told.Goals as goal

pub returns : goal.returns
returns g c = λ ops model bound code moves s n t cell laws leads there within.
    load_told ops model bound laws code s (history ops code moves) (told ops model bound laws code moves s leads) n t there cell within
