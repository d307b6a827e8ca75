use Rattle.std.proofs.Common.{ℕ, ◌+◌, ◌<◌}
use Rattle.std.specs.Prelude.{IsSome}
use Rattle.tc_base.specs.Names.{child}
use Rattle.tc_base.specs.Paths.{path_under}
use Rattle.path_walk.proofs.draft.first_absent.Given as goal

abbrev pub invariant-loop-number : goal.invariant-loop-number
invariant-loop-number l = (j : ℕ) → j < l.number → IsSome (path_under (child l.parent (j + 1)) l.log.log.threads)
