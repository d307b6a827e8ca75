use Rattle.std.proofs.Common.{◌≡◌, ◌^◌, ◌-◌, min, map, take, sum}
use Rattle.order_formula.specs.Formulas.{case_nodes}
use Rattle.order_formula.proofs.formula.Cases.nodes.Given as goal

abbrev pub invariant-loop-case : goal.invariant-loop-case
invariant-loop-case l = l.count ≡ min (sum (map case_nodes (take l.case-index l.case-items))) (2 ^ 64 - 1)
