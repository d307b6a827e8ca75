use Rattle.std.proofs.Common.{◌≡◌, ◌≤◌, ◌-◌, length}
use Rattle.cdcl_clauses.specs.Clauses.{listed}
use Rattle.cdcl_propagate.specs.helpers.Looks.{IsVisitedBelow}
use Rattle.cdcl_propagate.specs.Propagation.{Propagates}
use Rattle.cdcl_propagate.proofs.units.visit.Given as goal

abbrev pub invariant-loop-place : goal.invariant-loop-place
invariant-loop-place l = record {
  keeps : Propagates l.initial.trail l.initial.clauses l.trail l.clauses l.watches;
  same : l.trail.propagated ≡ l.initial.trail.propagated;
  within : l.place ≤ length (listed l.watches l.fallen);
  visited : IsVisitedBelow l.trail l.clauses l.watches l.fallen l.place;
}

abbrev pub decreases-loop-place : goal.decreases-loop-place
decreases-loop-place l = length (listed l.watches l.fallen) - l.place
