use Rattle.std.proofs.Common.{arith}
use Rattle.tc_lower.proofs.Chains.{below_at}
use Rattle.tc_lower.proofs.statement.Body.join.Goals as goal

pub put-requires : goal.put-requires
put-requires c = omega (arith, below_at _ c.args.jumps.now c.loop-jump.jump-index 0 (omega arith) c.requires.jumps, c.loop-jump.invariant.size)
