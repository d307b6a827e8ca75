use Rattle.std.proofs.Common.{◌≤◌, length}
use Rattle.std.specs.Prelude.{IfSome}
use Rattle.test_find.proofs.threads.paths.Given as goal

abbrev pub invariant-paths : goal.invariant-paths
invariant-paths l = IfSome l.last (λ p. length p.outcomes ≤ l.scope.most)
