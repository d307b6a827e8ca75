use Rattle.least_switch.specs.helpers.Found.{IsBest}
use Rattle.least_switch.proofs.searching.fewest.Given as goal

abbrev pub invariant-loop-best : goal.invariant-loop-best
invariant-loop-best g l = IsBest g.M.MemoryModel.ops g.M.MemoryModel.MODEL l.code l.log.log l.best

abbrev pub decreases-loop-best : goal.decreases-loop-best
decreases-loop-best g l = l.best.switches
