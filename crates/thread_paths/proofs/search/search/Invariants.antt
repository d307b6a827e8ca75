use Rattle.std.proofs.Common.{◌-◌, ◌^◌}
use Rattle.thread_paths.specs.helpers.Descents.{worth}
use Rattle.slot_liveness.specs.Tables.{liveness}
use Rattle.thread_paths.proofs.Searches.{IsLeft}
use Rattle.thread_paths.proofs.search.search.Given as goal

abbrev pub invariant-ways : goal.invariant-ways
invariant-ways l = IsLeft l.program.code.now (liveness l.program.live.now) l.scope l.fn.outcomes.items l.fn.least l.outcomes.items l.least l.cut

abbrev pub decreases-ways : goal.decreases-ways
decreases-ways l = 2 ^ l.scope.most - worth l.scope.most l.outcomes.items
