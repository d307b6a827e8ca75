use Rattle.std.proofs.Common.{◌≡◌, ◌++◌, map, Some}
use Rattle.std.specs.FinMap as fin
use Rattle.store_buffers.proofs.segment.Segment.forms.Given as goal

abbrev pub invariant-loop-cell : goal.invariant-loop-cell
invariant-loop-cell l = l.forms.items ++ map (λ c. Some c) l.cell-iterator ≡ map (λ c. Some c) (fin.keys l.self)
