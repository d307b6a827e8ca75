use Rattle.std.proofs.Common.{◌≡◌, drop}
use Rattle.std.specs.List.{filter_map}
use Rattle.mutex_clauses.specs.shapes.helpers.Pooled.{with_terms}
use Rattle.mutex_clauses.proofs.shapes.pool.Pool.add_loads.Given as goal

-- the terms so far and those of the rest are all terms
abbrev pub invariant-loop-load : goal.invariant-loop-load
invariant-loop-load l = record {
  all : with_terms l.fn.self.slots l.self.nodes (filter_map (λ x. x.value) (drop l.load-index l.loads))
      ≡ with_terms l.fn.self.slots l.fn.self.nodes (filter_map (λ x. x.value) l.loads);
  slots : l.self.slots ≡ l.fn.self.slots;
}
