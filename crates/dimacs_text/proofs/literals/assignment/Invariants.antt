use Rattle.std.proofs.Common.{◌≡◌}
use Rattle.dimacs_text.specs.Values.{assigned}
use Rattle.dimacs_text.proofs.literals.assignment.Given as goal

abbrev pub invariant-loop-place : goal.invariant-loop-place
invariant-loop-place l = l.values.items ≡ assigned l.place l.literals
