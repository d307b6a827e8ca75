use Rattle.std.proofs.Common.{◌≡◌, ◌-◌, length}
use Rattle.cdcl_steps.specs.Descents.{Descends}
use Rattle.cdcl_steps.proofs.descent.to_conflict.Given as goal

abbrev pub invariant-loop-conflict : goal.invariant-loop-conflict
invariant-loop-conflict l = record {
  keeps : Descends l.initial.trail l.initial.clauses l.trail l.clauses l.watches;
  activity_same : l.activity ≡ l.initial.activity;
}

abbrev pub decreases-loop-conflict : goal.decreases-loop-conflict
decreases-loop-conflict l = l.trail.variables - length l.trail.literals
