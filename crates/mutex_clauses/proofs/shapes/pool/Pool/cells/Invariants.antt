use Rattle.std.proofs.Common.{◌≡◌, map, take}
use Rattle.std.specs.Prelude.{option_map}
use Rattle.mutex_clauses.specs.shapes.helpers.Pooled.{term_in}
use Rattle.mutex_clauses.proofs.shapes.pool.Pool.cells.Given as goal

abbrev pub invariant-loop-cell : goal.invariant-loop-cell
invariant-loop-cell l = record {
  made : l.terms.items ≡ map (λ x. option_map (term_in l.fn.self) x.value) (take l.cell-index l.cells);
  same : l.self ≡ l.fn.self;
}
