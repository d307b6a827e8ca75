use Rattle.std.proofs.Common.{◌≡◌, ◌++◌, replicate}
use Rattle.path_log.proofs.outcomes.push_run.Given as goal

abbrev pub invariant-loop : goal.invariant-loop
invariant-loop l = l.outcomes.items ≡ l.initial.outcomes.items ++ replicate l.counter l.outcome
