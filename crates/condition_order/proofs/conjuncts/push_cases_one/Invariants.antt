use Rattle.std.proofs.Common.{◌≡◌, ◌++◌, take}
use Rattle.condition_order.specs.Conditions.{cases_one}
use Rattle.condition_order.proofs.conjuncts.push_cases_one.Given as goal

abbrev pub invariant-loop-sleep : goal.invariant-loop-sleep
invariant-loop-sleep l = l.cases.items ≡ l.fn.cases.items ++ cases_one l.ender (take l.sleep-index l.sleeps)
