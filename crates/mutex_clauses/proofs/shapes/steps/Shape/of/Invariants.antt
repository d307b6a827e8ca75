use Rattle.std.proofs.Common.{◌≡◌, take}
use Rattle.std.specs.List.{filter_map}
use Rattle.mutex_clauses.proofs.shapes.steps.Shape.of.Given as goal

abbrev pub invariant-loop-cell : goal.invariant-loop-cell
invariant-loop-cell l = l.terms.items ≡ filter_map (λ term. term) (take l.cell-index l.cells)
