use Rattle.std.proofs.Common.{◌≡◌, map, take}
use Rattle.mutex_clauses.specs.shapes.Termed.{termed_by}
use Rattle.mutex_clauses.specs.shapes.helpers.Pooled.{term_in}
use Rattle.mutex_clauses.proofs.shapes.pool.Pool.steps.Given as goal

abbrev pub invariant-loop-step : goal.invariant-loop-step
invariant-loop-step l = record {
  made : l.termed.items ≡ map (termed_by (term_in l.fn.self)) (take l.step-index l.steps);
  same : l.self ≡ l.fn.self;
}
