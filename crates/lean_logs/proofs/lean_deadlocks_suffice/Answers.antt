use Rattle.lean_logs.proofs.Runs.{stuck_whole, stuck_within}
use Rattle.lean_logs.proofs.lean_deadlocks_suffice.Goals as goal

pub returns-clause-whole : goal.returns-clause-whole
returns-clause-whole g c = λ m live closed none comes.
    stuck_whole m live closed none comes

pub returns-clause-within : goal.returns-clause-within
returns-clause-within g c = λ m live most closed none comes.
    stuck_within m live most closed none comes
