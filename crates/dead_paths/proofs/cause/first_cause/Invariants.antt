use Rattle.std.proofs.Common.{◌≡◌, drop}
use Rattle.dead_paths.specs.Causes.{first_cause}
use Rattle.dead_paths.proofs.cause.first_cause.Given as goal

abbrev pub invariant-loop-thread : goal.invariant-loop-thread
invariant-loop-thread l = first_cause l.code l.log.log l.log.log.threads ≡ first_cause l.code l.log.log (drop l.thread-index l.log.log.threads)
