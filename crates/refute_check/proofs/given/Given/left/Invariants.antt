use Rattle.std.proofs.Common.{◌≡◌, ◌++◌, drop, ◌≢◌, true}
use Rattle.cnf_core.specs.Clauses.{is_within}
use Rattle.refute_check.specs.Literals.{left}
use Rattle.refute_check.specs.helpers.Given.{those}
use Rattle.refute_check.specs.declared.given.Left.TheVariants.{More}
use Rattle.refute_check.proofs.given.Given.left.Given as goal

abbrev pub invariant-loop-lit : goal.invariant-loop-lit
invariant-loop-lit l = record {
  within : is_within l.self.vars (those l.found) ≡ true;
  found : l.found ≢ More;
  left : left l.self.literals l.clause ≡
      those l.found ++ left l.self.literals (drop l.lit-index l.clause);
}
