use Rattle.std.proofs.Common.{ℕ, ◌<◌, ◌≢◌, get_or}
use Rattle.std.specs.Prelude.{Contains}
use Rattle.cdcl_literals.specs.Literals.{opposite_of}
use Rattle.cdcl_propagate.proofs.inspect.not_false.Given as goal

abbrev pub invariant-loop-literal : goal.invariant-loop-literal
invariant-loop-literal l = (k : ℕ) → k < l.literal-index → get_or l.literals k 0 ≢ l.beside → Contains l.trail.literals (opposite_of (get_or l.literals k 0))
