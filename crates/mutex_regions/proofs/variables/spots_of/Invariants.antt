use Rattle.std.proofs.Common.{◌≡◌, take}
use Rattle.mutex_regions.specs.Variables.{spots_of}
use Rattle.mutex_regions.proofs.variables.spots_of.Given as goal

abbrev pub invariant-loop-variable : goal.invariant-loop-variable
invariant-loop-variable l = l.spots.items ≡ spots_of (take l.variable-index l.variables)
