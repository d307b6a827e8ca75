use Rattle.std.proofs.Common.{◌≡◌, map, take}
use Rattle.mutex_clauses.specs.shapes.Termed.{load_term}
use Rattle.mutex_clauses.specs.shapes.helpers.Pooled.{term_in}
use Rattle.mutex_clauses.proofs.shapes.pool.Pool.loads.Given as goal

abbrev pub invariant-loop-loaded : goal.invariant-loop-loaded
invariant-loop-loaded l = record {
  made : l.terms.items ≡ map (load_term (term_in l.fn.self)) (take l.loaded-index l.loads);
  same : l.self ≡ l.fn.self;
}
