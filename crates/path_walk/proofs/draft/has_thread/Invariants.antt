use Rattle.std.proofs.Common.{◌≡◌, drop}
use Rattle.std.specs.Prelude.{is_some}
use Rattle.tc_base.specs.Paths.{path_under}
use Rattle.path_walk.proofs.draft.has_thread.Given as goal

abbrev pub invariant-loop-thread : goal.invariant-loop-thread
invariant-loop-thread l = is_some (path_under l.name (drop l.thread-index l.log.log.threads)) ≡ is_some (path_under l.name l.log.log.threads)
