use Rattle.run_history.specs.History.{history}
use Rattle.run_history.proofs.run_laws.Asks.{next_asks_within}
use Rattle.run_follows.proofs.Enabled.{told, run_told}
use Rattle.run_follows.proofs.runs_are_told.Goals as goal

pub returns : goal.returns
returns g c = λ machine moves s n t i leads there at.
    run_told machine.ops machine.model machine.bound machine.laws machine.code s (history machine.ops machine.code moves)
    (told machine.ops machine.model machine.bound machine.laws machine.code moves s leads) n t there i at
    (next_asks_within machine.ops machine.code s n t i machine.lawful (record { moves = moves; leads = leads }) there at)
