use Rattle.std.proofs.Common.{sym, subst, ap, arith}
use Rattle.refute_check.specs.Refutations.{Checking}
use Rattle.refute_check.specs.helpers.Checkers.{AreWithin}
use Rattle.refute_check.proofs.Checkings.{AreWithin-insert}
use Rattle.refute_check.proofs.checker.Checker.pass.Goals as goal

pub invariant_of-self-2 : goal.invariant_of-self-2
invariant_of-self-2 c =
    let line = ap (λ (s : Checking). s.line) c.self.view_is in
    let next = ap (λ (s : Checking). s.next) c.self.view_is in
    record {
      few = c.self.invariant.few;
      within = subst (AreWithin c.self.inside.vars) (sym c.in_ok-insert.ensures.ok)
          (AreWithin-insert c.self.inside.vars c.self.inside.kept c.self.inside.next _ c.self.invariant.within (Prim.grind arith));
      room = omega (arith, line, next);
      begun = omega arith;
      lines = omega (arith, line, next);
      fault = c.self.invariant.fault;
      vars = c.self.invariant.vars;
      given = c.self.invariant.given;
    }
