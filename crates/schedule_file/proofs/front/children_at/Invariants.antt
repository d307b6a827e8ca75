use Rattle.std.proofs.Common.{length}
use Rattle.tc_limits.specs.declared.limits.TheConstants.{DEPTH}
use Rattle.schedule_file.specs.helpers.Reading.{children_at}
use Rattle.schedule_file.proofs.Fronts.{ChildrenSoFar}
use Rattle.schedule_file.proofs.front.children_at.Given as goal

abbrev pub invariant-loop-number : goal.invariant-loop-number
invariant-loop-number l = ChildrenSoFar l.name l.rest (children_at DEPTH l.text)

abbrev pub decreases-loop-number : goal.decreases-loop-number
decreases-loop-number l = length l.rest
