use Rattle.std.proofs.Common.{◌≡◌, map, take}
use Rattle.mutex_regions.specs.Functions.{stored}
use Rattle.mutex_regions.proofs.functions.all_stored.Given as goal

abbrev pub invariant-loop-cell : goal.invariant-loop-cell
invariant-loop-cell l = l.after.items ≡ map (stored l.variable l.index l.value) (take l.cell-index l.cells)
