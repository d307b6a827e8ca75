use Rattle.std.proofs.Common.{◌-◌}
use Rattle.cdcl_propagate.specs.Propagation.{Propagates}
use Rattle.cdcl_propagate.proofs.units.propagate.Given as goal

abbrev pub invariant-loop-literal : goal.invariant-loop-literal
invariant-loop-literal l = Propagates l.initial.trail l.initial.clauses l.trail l.clauses l.watches

abbrev pub decreases-loop-literal : goal.decreases-loop-literal
decreases-loop-literal l = l.trail.variables - l.trail.propagated
