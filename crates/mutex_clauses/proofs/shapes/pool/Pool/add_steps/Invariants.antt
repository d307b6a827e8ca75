use Rattle.std.proofs.Common.{◌≡◌, drop}
use Rattle.std.specs.List.{flat_map}
use Rattle.mutex_states.specs.Steps.{exprs_of}
use Rattle.mutex_clauses.specs.shapes.helpers.Pooled.{with_terms}
use Rattle.mutex_clauses.proofs.shapes.pool.Pool.add_steps.Given as goal

-- the terms so far and those of the rest are all terms
abbrev pub invariant-loop-step : goal.invariant-loop-step
invariant-loop-step l = record {
  all : with_terms l.fn.self.slots l.self.nodes (flat_map exprs_of (drop l.step-index l.steps))
      ≡ with_terms l.fn.self.slots l.fn.self.nodes (flat_map exprs_of l.steps);
  slots : l.self.slots ≡ l.fn.self.slots;
}
