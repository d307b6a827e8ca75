use Rattle.std.proofs.Common.{◌≡◌, map, take}
use Rattle.mutex_clauses.specs.shapes.Termed.{test_term}
use Rattle.mutex_clauses.specs.shapes.helpers.Pooled.{term_in}
use Rattle.mutex_clauses.proofs.shapes.pool.Pool.tests.Given as goal

abbrev pub invariant-loop-tested : goal.invariant-loop-tested
invariant-loop-tested l = record {
  made : l.terms.items ≡ map (test_term (term_in l.fn.self)) (take l.tested-index l.tests);
  same : l.self ≡ l.fn.self;
}
