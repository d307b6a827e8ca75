use Rattle.std.proofs.Common.{◌≡◌, map, take, Some}
use Rattle.std.specs.List.{enumerate_from}
use Rattle.tc_code.specs.Expr as expr
use Rattle.mutex_regions.proofs.functions.Doing.at_begin.Given as goal

abbrev pub invariant-loop-slot : goal.invariant-loop-slot
invariant-loop-slot l =
    l.cells.items ≡ map (λ p. record { spot = p.1; value = Some (expr.Slot p.0) }) (enumerate_from 0 (take l.slot l.spot-items))
