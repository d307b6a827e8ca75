use Rattle.cdcl_lines.proofs.Valuing.{AgreesBelow}
use Rattle.cdcl_lines.proofs.models.assignment_of.Given as goal

abbrev pub invariant-loop-number : goal.invariant-loop-number
invariant-loop-number l = AgreesBelow l.trail l.values.items l.number
