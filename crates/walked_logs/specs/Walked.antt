-- Logs that going through the threads that make up a log comes to.
use Rattle.std.specs.Prelude.{◌≡◌, IsSome}
use Rattle.log_walk.specs.run_log.Logs.{Log, failing_of}
use Rattle.log_walk.specs.tc_base.declared.failing.Failing.TheVariants as failing
use Rattle.log_walk.specs.tc_code.Code.{Code}
use Rattle.log_walk.specs.Rest.{all, MakeUp}
use Rattle.log_walk.specs.declared.bounds.Kind.TheVariants.{Failure, Deadlock}

-- a log of a failure whose threads make up a log
pub record IsWalked (code : Code) (log : Log) : Type 0 where
  pub fails : IsSome (failing_of log)
  pub makes_up : MakeUp code Failure (all code Failure) log.threads

-- a log of a deadlock whose threads make up a log
pub record IsWalkedDeadlock (code : Code) (log : Log) : Type 0 where
  pub ends : log.failing ≡ failing.Deadlock
  pub makes_up : MakeUp code Deadlock (all code Deadlock) log.threads
