use Rattle.std.proofs.Common.{◌≡◌, take}
use Rattle.cdcl_lines.specs.Literals.{clause_of}
use Rattle.cdcl_lines.proofs.literals.to_literals.Given as goal

abbrev pub invariant-loop-lit : goal.invariant-loop-lit
invariant-loop-lit l = clause_of l.literals.items ≡ take l.lit-index l.clause
