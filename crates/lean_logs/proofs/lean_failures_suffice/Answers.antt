use Rattle.lean_logs.proofs.Runs.{fails_whole, fails_within}
use Rattle.lean_logs.proofs.lean_failures_suffice.Goals as goal

pub returns-clause-whole : goal.returns-clause-whole
returns-clause-whole g c = λ m live closed none comes.
    fails_whole m live closed none comes

pub returns-clause-within : goal.returns-clause-within
returns-clause-within g c = λ m live most closed none comes.
    fails_within m live most closed none comes
