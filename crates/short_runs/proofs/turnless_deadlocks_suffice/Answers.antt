use Rattle.short_runs.proofs.Short.{no_stuck, no_stuck_within}
use Rattle.short_runs.proofs.turnless_deadlocks_suffice.Goals as goal

pub returns-clause-whole : goal.returns-clause-whole
returns-clause-whole g c = λ m live closed none h all stuck.
    no_stuck m live closed none h all stuck

pub returns-clause-within : goal.returns-clause-within
returns-clause-within g c = λ m live k closed none h all stuck few.
    no_stuck_within m live closed k none h all stuck few
