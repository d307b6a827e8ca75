use Rattle.thread_paths.specs.helpers.Descents.{IsNode}
use Rattle.thread_paths.proofs.descent.descend.Given as goal

abbrev pub invariant-loop-steps : goal.invariant-loop-steps
invariant-loop-steps l = IsNode l.program.code.now l.scope l.fn.outcomes.items l.fn.least l.steps l.at l.outcomes.items l.past
