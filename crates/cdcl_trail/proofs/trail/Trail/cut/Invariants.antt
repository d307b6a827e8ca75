use Rattle.std.proofs.Common.{◌≡◌}
use Rattle.cdcl_trail.proofs.Cuts.{Opens}
use Rattle.cdcl_trail.proofs.trail.Trail.cut.Given as goal

abbrev pub invariant-loop-place : goal.invariant-loop-place
invariant-loop-place l = record {
  opens : Opens l.initial.self-inside.values.items l.self-inside.values.items l.initial.self-inside.literals.items l.start l.place;
  others : l.self-inside ≡ record l.initial.self-inside { values = l.self-inside.values };
}
