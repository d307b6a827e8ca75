use Rattle.run_history.proofs.Frame.{holds_after}
use Rattle.run_history.proofs.Shared.{WaitersAre, keeps_waiters, opening_waiters}
use Rattle.run_history.proofs.waiters_are_told.Goals as goal

pub returns : goal.returns
returns g c = λ ops code moves s d leads within.
    (holds_after ops code (WaitersAre ops code) (keeps_waiters ops code) (opening_waiters ops code) moves s leads).waiters d within
