use Rattle.std.proofs.Common.{◌≡◌, ◌++◌, drop, map}
use Rattle.why_impossible.specs.refute_core.Reached.{hints_used}
use Rattle.why_impossible.proofs.refute_core.hints_used.Given as goal

abbrev pub invariant-loop-line : goal.invariant-loop-line
invariant-loop-line l = hints_used l.lines ≡ map (λ h. h.now) l.hints.items ++ hints_used (drop l.line-index l.lines)
