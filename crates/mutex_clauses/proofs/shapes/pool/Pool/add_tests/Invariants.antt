use Rattle.std.proofs.Common.{◌≡◌, drop, map}
use Rattle.mutex_clauses.specs.shapes.helpers.Pooled.{with_terms}
use Rattle.mutex_clauses.proofs.shapes.pool.Pool.add_tests.Given as goal

-- the terms so far and those of the rest are all terms
abbrev pub invariant-loop-tested : goal.invariant-loop-tested
invariant-loop-tested l = record {
  all : with_terms l.fn.self.slots l.self.nodes (map (λ x. x.test) (drop l.tested-index l.tests))
      ≡ with_terms l.fn.self.slots l.fn.self.nodes (map (λ x. x.test) l.tests);
  slots : l.self.slots ≡ l.fn.self.slots;
}
