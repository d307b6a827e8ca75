use Rattle.std.proofs.Common.{drop}
use Rattle.tc_lower.specs.helpers.Seen.{plain_scope}
use Rattle.tc_lower.proofs.Values.{ArgumentsSoFar}
use Rattle.tc_lower.proofs.value.Writer.evaluate_all.Given as goal

-- what was written, with the remaining arguments, is everything
abbrev pub invariant-loop-argument : goal.invariant-loop-argument
invariant-loop-argument l = ArgumentsSoFar (plain_scope l.scope) l.fn.self l.self l.values.items l.arguments
    (drop l.argument-index l.arguments)
