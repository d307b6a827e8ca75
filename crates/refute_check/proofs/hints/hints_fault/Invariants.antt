use Rattle.std.proofs.Common.{◌≡◌, drop}
use Rattle.refute_check.specs.Refutations.{hints_fault}
use Rattle.refute_check.proofs.hints.hints_fault.Given as goal

abbrev pub invariant-loop-place : goal.invariant-loop-place
invariant-loop-place l =
    record {
      vars : l.given.vars ≡ l.initial.given.vars;
      fault : hints_fault l.line l.kept l.initial.given.literals l.hints ≡ hints_fault l.line l.kept l.given.literals (drop l.place l.hints);
    }
