use Rattle.run_history.proofs.Frame.{holds_after}
use Rattle.run_history.proofs.Threads.{ThreadsAre, keeps_threads, opening_threads}
use Rattle.run_history.proofs.steps_are_told.Goals as goal

pub returns : goal.returns
returns g c = λ ops code moves s n leads.
    (holds_after ops code (ThreadsAre ops code) (keeps_threads ops code) (opening_threads ops code) moves s leads).steps n
