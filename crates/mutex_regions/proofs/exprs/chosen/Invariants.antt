use Rattle.std.proofs.Common.{take}
use Rattle.std.specs.Prelude.{filter}
use Rattle.mutex_regions.specs.Variables.{same_variable}
use Rattle.mutex_regions.proofs.Choices.{IsSoFar}
use Rattle.mutex_regions.proofs.exprs.chosen.Given as goal

abbrev pub invariant-loop-cell : goal.invariant-loop-cell
invariant-loop-cell l = IsSoFar l.index (filter (λ x. same_variable x.spot.variable l.variable) (take l.cell-index l.cells)) l.is_first l.value
