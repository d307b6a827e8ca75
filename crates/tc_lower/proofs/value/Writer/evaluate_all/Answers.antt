use Rattle.std.proofs.Common.{arith}
use Rattle.tc_lower.specs.helpers.Seen.{plain_scope}
use Rattle.tc_lower.proofs.Values.{argument_fits}
use Rattle.tc_lower.proofs.value.Writer.evaluate_all.Goals as goal

pub evaluate-requires-clause-fits : goal.evaluate-requires-clause-fits
evaluate-requires-clause-fits c = argument_fits (plain_scope c.args.scope) c.args.self.now c.loop-argument.self
    c.loop-argument.values.items c.args.arguments.now c.args.arguments.now c.loop-argument.argument-index
    c.argument-item.result c.loop-argument.invariant (omega arith) c.argument-item.is c.requires.fits
