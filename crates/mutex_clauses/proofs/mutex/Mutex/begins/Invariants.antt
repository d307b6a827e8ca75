use Rattle.std.proofs.Common.{◌≡◌, map, take}
use Rattle.mutex_clauses.specs.helpers.Starts.{begin_in}
use Rattle.mutex_clauses.proofs.mutex.Mutex.begins.Given as goal

abbrev pub invariant-loop-region : goal.invariant-loop-region
invariant-loop-region l = l.begins.items ≡ map (begin_in l.events) (take l.region-index l.self.regions.items)
