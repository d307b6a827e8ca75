use Rattle.path_log.specs.Fields.{runs_of}
use Rattle.path_log.specs.helpers.Reading.{place}
use Rattle.path_log.proofs.Loops.{RunsSoFar}
use Rattle.path_log.proofs.outcomes.runs_from.Given as goal

abbrev pub invariant-loop-left : goal.invariant-loop-left
invariant-loop-left l = RunsSoFar l.outcomes.items l.outcome l.left (place l.rest) (runs_of l.first l.count (place l.cursor))

abbrev pub decreases-loop-left : goal.decreases-loop-left
decreases-loop-left l = l.left
