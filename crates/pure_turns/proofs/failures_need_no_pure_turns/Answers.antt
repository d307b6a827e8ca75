use Rattle.pure_turns.proofs.Needs.{no_failure, no_failure_within}
use Rattle.pure_turns.proofs.failures_need_no_pure_turns.Goals as goal

pub returns-clause-whole : goal.returns-clause-whole
returns-clause-whole g c = λ ops code live lawful closed none moves s leads. no_failure ops code lawful live closed none moves s leads

pub returns-clause-within : goal.returns-clause-within
returns-clause-within g c = λ ops code live k lawful closed none moves s leads few. no_failure_within ops code lawful live closed k none moves s leads few
