use Rattle.std.proofs.Common.{◌≡◌, ◌+◌, ◌≤◌, drop}
use Rattle.tc_tree.specs.Counts as count
use Rattle.tc_parser.proofs.counts.mutexes.Given as goal

-- the count so far and that of the remaining globals
abbrev pub invariant-loop-global : goal.invariant-loop-global
invariant-loop-global l = (count.mutexes l.globals ≡ l.found + count.mutexes (drop l.global-index l.globals)) × (l.found ≤ l.global-index)
