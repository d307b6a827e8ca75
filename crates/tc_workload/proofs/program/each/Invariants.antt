use Rattle.std.proofs.Common.{◌≡◌, ◌+◌, ◌-◌, ◌++◌}
use Rattle.std.specs.Prelude.{string_bytes}
use Rattle.tc_workload.specs.Workload.{each}
use Rattle.tc_workload.specs.helpers.Pieces.{written}
use Rattle.tc_workload.proofs.program.each.Given as goal

abbrev pub invariant-loop-index : goal.invariant-loop-index
invariant-loop-index l =
    string_bytes l.text ++ each (written l.piece) (l.first + l.index) (l.count - l.index) ≡ each (written l.piece) l.first l.count
