use Rattle.std.proofs.Common.{◌≡◌, map, take}
use Rattle.tc_code.specs.Expr.{value_of}
use Rattle.tc_threads.proofs.local.values.Given as goal

abbrev pub invariant-loop-e : goal.invariant-loop-e
invariant-loop-e l = l.found.items ≡ map (λ e. value_of e l.slots) ((take l.e-index l.arguments))
