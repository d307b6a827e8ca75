use Rattle.std.proofs.Common.{ℕ, ◌*◌, ◌<◌}
use Rattle.cdcl_trail.specs.Trail.{IsOpen}
use Rattle.cdcl_steps.proofs.choice.first_open.Given as goal

abbrev pub invariant-loop-number : goal.invariant-loop-number
invariant-loop-number l = (v : ℕ) → v < l.number → IsOpen l.trail (2 * v) → ⊥
