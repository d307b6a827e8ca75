use Rattle.std.proofs.Common.{◌≡◌, take}
use Rattle.cdcl_lines.specs.Literals.{clause_of}
use Rattle.cdcl_lines.proofs.lines.lits.Given as goal

abbrev pub invariant-loop-literal : goal.invariant-loop-literal
invariant-loop-literal l = l.lits.items ≡ clause_of (take l.literal-index l.literals)
