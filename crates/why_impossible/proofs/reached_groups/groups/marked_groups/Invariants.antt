use Rattle.std.proofs.Common.{◌≡◌, ◌++◌, ◌≤◌, drop, length}
use Rattle.why_impossible.specs.reached_groups.helpers.Marked.{marked_from}
use Rattle.why_impossible.proofs.reached_groups.groups.marked_groups.Given as goal

-- the groups still to come follow those that are there, and each conjunct so far has a clause
abbrev pub invariant-loop-number : goal.invariant-loop-number
invariant-loop-number l =
    (l.groups.items ++ marked_from l.blasted l.marks l.number (drop l.number l.formula) ≡ marked_from l.blasted l.marks 0 l.formula)
    × (l.number ≤ length l.blasted.clauses.clauses)
