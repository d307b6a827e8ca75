use Rattle.std.proofs.Common.{◌≡◌, take}
use Rattle.cdcl_lines.specs.Literals.{numbers_of}
use Rattle.cdcl_lines.proofs.lines.numbers.Given as goal

abbrev pub invariant-loop-clause : goal.invariant-loop-clause
invariant-loop-clause l = l.numbers.items ≡ numbers_of (take l.clause-index l.clauses)
