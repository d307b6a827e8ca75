use Rattle.std.proofs.Common.{◌≡◌, drop}
use Rattle.std.specs.List.{filter_map}
use Rattle.mutex_clauses.specs.shapes.helpers.Pooled.{with_terms}
use Rattle.mutex_clauses.proofs.shapes.pool.Pool.add_cells.Given as goal

-- the terms so far and those of the rest are all terms
abbrev pub invariant-loop-cell : goal.invariant-loop-cell
invariant-loop-cell l = record {
  all : with_terms l.fn.self.slots l.self.nodes (filter_map (λ x. x.value) (drop l.cell-index l.cells))
      ≡ with_terms l.fn.self.slots l.fn.self.nodes (filter_map (λ x. x.value) l.cells);
  slots : l.self.slots ≡ l.fn.self.slots;
}
