use Rattle.std.proofs.Common.{◌≡◌, ◌+◌, ◌*◌, ◌≤◌, drop}
use Rattle.tc_tree.specs.Counts as count
use Rattle.tc_parser.proofs.counts.cells.Given as goal

-- the sum so far and that of the remaining globals
abbrev pub invariant-loop-global : goal.invariant-loop-global
invariant-loop-global l = (count.cells l.globals ≡ l.sum + count.cells (drop l.global-index l.globals)) × (l.sum ≤ 2147483648 * l.global-index)
