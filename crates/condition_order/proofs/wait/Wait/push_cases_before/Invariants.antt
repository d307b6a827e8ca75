use Rattle.std.proofs.Common.{◌≡◌, ◌++◌, take}
use Rattle.condition_order.specs.Conditions.{cases_before}
use Rattle.condition_order.proofs.wait.Wait.push_cases_before.Given as goal

abbrev pub invariant-loop-other : goal.invariant-loop-other
invariant-loop-other l = l.cases.items ≡ l.fn.cases.items ++ cases_before l.self (take l.other-index l.enders) l.ender
