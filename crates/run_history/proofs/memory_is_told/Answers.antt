use Rattle.run_history.proofs.Frame.{holds_after}
use Rattle.run_history.proofs.Shared.{MemoryIs, keeps_memory, opening_memory}
use Rattle.run_history.proofs.memory_is_told.Goals as goal

pub returns : goal.returns
returns g c = λ ops code moves s cell leads within.
    (holds_after ops code (MemoryIs ops code) (keeps_memory ops code) (opening_memory ops code) moves s leads).values cell within
