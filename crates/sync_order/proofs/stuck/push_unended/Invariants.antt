use Rattle.std.proofs.Common.{◌≡◌, ◌++◌, map, take}
use Rattle.sync_order.specs.Stuck.{not_ended_literal}
use Rattle.sync_order.proofs.stuck.push_unended.Given as goal

abbrev pub invariant-loop-ender : goal.invariant-loop-ender
invariant-loop-ender l = l.literals.items ≡ l.fn.literals.items ++ map (not_ended_literal l.sleep) (take l.ender-index l.enders)
