use Rattle.std.proofs.Common.{◌≡◌, length}
use Rattle.dimacs_text.specs.Answers.{is_blank, pieces}
use Rattle.dimacs_text.specs.declared.said.Said.TheVariants.{Begun}
use Rattle.dimacs_text.specs.helpers.Reading.{after_parts}
use Rattle.dimacs_text.proofs.said.after_parts.Given as goal

abbrev pub invariant-loop-rest : goal.invariant-loop-rest
invariant-loop-rest l = after_parts (Begun l.fn.literals) (pieces is_blank l.fn.words) ≡ after_parts l.said (pieces is_blank l.rest)

abbrev pub decreases-loop-rest : goal.decreases-loop-rest
decreases-loop-rest l = length l.rest
