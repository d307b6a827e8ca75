-- Logs in which no path is needless.
use Rattle.std.specs.Prelude.{true}
use Rattle.pure_turns.specs.Live.{Liveness}
use Rattle.log_walk.specs.run_log.Logs.{Log}
use Rattle.log_walk.specs.tc_code.Code.{Code}
use Rattle.log_walk.specs.Rest.{all}
use Rattle.log_walk.specs.Needless.{SomeNeedless}
use Rattle.log_walk.specs.declared.bounds.Kind.TheVariants.{Failure, Deadlock}
use Rattle.normal_logs.specs.Within.{Allowed}
use Rattle.walked_logs.specs.Walked.{IsWalked, IsWalkedDeadlock}

-- any outcomes
abbrev pub any_outcomes : Allowed
any_outcomes n outcomes = true

-- a log of a failure whose threads make up a log, and none of whose paths is needless
pub record IsLean (code : Code) (live : Liveness) (log : Log) : Type 0 where
  pub walked : IsWalked code log
  pub needed : SomeNeedless code live Failure (all code Failure) log.threads → ⊥

-- a log of a deadlock whose threads make up a log, and none of whose paths is needless
pub record IsLeanDeadlock (code : Code) (live : Liveness) (log : Log) : Type 0 where
  pub walked : IsWalkedDeadlock code log
  pub needed : SomeNeedless code live Deadlock (all code Deadlock) log.threads → ⊥
