use Rattle.std.proofs.Common.{◌≡◌, take}
use Rattle.std.specs.List.{fold}
use Rattle.refute_check.specs.Refutations.{keep, opening}
use Rattle.refute_check.proofs.checker.Checker.new.Given as goal

abbrev pub invariant-loop-place : goal.invariant-loop-place
invariant-loop-place l = l.checker ≡ fold keep (opening l.cnf.vars) (take l.place l.cnf.clauses)
