use Rattle.std.proofs.Common.{◌≡◌, ◌+◌, ◌*◌, Some}
use Rattle.std.specs.Prelude.{IfSome, slice_get}
use Rattle.tc_base.specs.Paths.{Path}
use Rattle.slot_liveness.specs.Tables.{liveness}
use Rattle.thread_paths.specs.Search.{IsFirst}
use Rattle.log_walk.specs.helpers.Searches.{scope_of, IsKept, IsTaken}
use Rattle.log_walk.proofs.Orders.{left_of}
use Rattle.log_walk.proofs.Finds.{IsAt}
use Rattle.log_walk.proofs.walk.Walk.+search.Given as goal

abbrev pub decreases-below : goal.decreases-below
decreases-below l = 3 * l.room

abbrev pub decreases-first_from : goal.decreases-first_from
decreases-first_from l = 3 * l.room + 1

abbrev pub decreases-search : goal.decreases-search
decreases-search l = 3 * l.room + 2

abbrev pub invariant-first_from-paths : goal.invariant-first_from-paths
invariant-first_from-paths l = record {
  same : l.self.threads.items ≡ l.fn.self.threads.items;
  kept : IsKept l.fn.self.out l.self.out;
  taken : IfSome l.found.path (IsTaken l.program.code.now l.bounds l.rest l.next);
  at : (start : Path) → IsFirst l.program.code.now (liveness l.program.live.now) (scope_of l.bounds l.rest l.next) start l.fn.found → (first : slice_get l.rest.awaited 0 ≡ Some l.next)
      → IsAt l.program.code.now (liveness l.program.live.now) l.bounds l.rest l.next first start l.room l.found l.self.out;
}

abbrev pub decreases-first_from-paths : goal.decreases-first_from-paths
decreases-first_from-paths l = left_of l.bounds.most l.found.path
