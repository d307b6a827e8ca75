use Rattle.short_runs.proofs.Short.{none_within, none_at_all}
use Rattle.short_runs.proofs.short_runs_suffice.Goals as goal

pub returns-clause-whole : goal.returns-clause-whole
returns-clause-whole g c = λ m live f closed none h all fails.
    none_at_all m live closed f none h all fails

pub returns-clause-within : goal.returns-clause-within
returns-clause-within g c = λ m live f k closed none h all fails few.
    none_within m live closed f k none h all fails few
