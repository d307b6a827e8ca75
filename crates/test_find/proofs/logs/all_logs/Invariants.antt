use Rattle.std.specs.Prelude.{IfSome, option_map}
use Rattle.log_walk.specs.Given.{IsOne}
use Rattle.test_find.proofs.logs.all_logs.Given as goal

abbrev pub invariant-logs : goal.invariant-logs
invariant-logs l = IfSome (option_map (λ v. v.items) l.last) (IsOne l.program.code.now l.bounds)
