use Rattle.std.proofs.Common.{◌≡◌, ◌^◌, ◌-◌, min, map, take, sum}
use Rattle.order_formula.specs.Formulas.{conjunct_nodes}
use Rattle.order_formula.proofs.formula.Formula.nodes.Given as goal

abbrev pub invariant-loop-conjunct : goal.invariant-loop-conjunct
invariant-loop-conjunct l = l.count ≡ min (sum (map conjunct_nodes (take l.conjunct-index l.conjunct-items))) (2 ^ 64 - 1)
