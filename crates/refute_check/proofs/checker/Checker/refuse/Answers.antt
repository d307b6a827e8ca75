use Rattle.std.proofs.Common.{sym, subst, ap, arith}
use Rattle.refute_check.specs.Refutations.{Checking}
use Rattle.refute_check.specs.helpers.Checkers.{AreWithin}
use Rattle.refute_check.proofs.Checkings.{AreWithin-empty}
use Rattle.refute_check.proofs.checker.Checker.refuse.Goals as goal

pub invariant_of-self : goal.invariant_of-self
invariant_of-self c =
    let line = ap (λ (s : Checking). s.line) c.self.view_is in
    let next = ap (λ (s : Checking). s.next) c.self.view_is in
    record {
      few = c.self.invariant.few;
      within = subst (AreWithin c.self.inside.vars) (sym c.new.ensures) (AreWithin-empty c.self.inside.vars);
      room = omega (arith, line, next);
      begun = omega arith;
      lines = omega (arith, line, next);
      fault = λ e. c.requires.fault cc;
      vars = c.self.invariant.vars;
      given = c.self.invariant.given;
    }
