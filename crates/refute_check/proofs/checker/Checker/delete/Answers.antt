use Rattle.std.proofs.Common.{sym, subst, ap, arith}
use Rattle.refute_check.specs.Refutations.{Checking}
use Rattle.refute_check.specs.helpers.Checkers.{AreWithin}
use Rattle.refute_check.proofs.Checkings.{AreWithin-empty, AreWithin-without}
use Rattle.refute_check.proofs.checker.Checker.delete.Goals as goal

pub invariant_of-self : goal.invariant_of-self
invariant_of-self c =
    let line = ap (λ (s : Checking). s.line) c.self.view_is in
    record {
      few = c.self.invariant.few;
      within = subst (AreWithin c.self.inside.vars) (sym (c.delete.ensures.gone c.if-delete.true))
          (AreWithin-without c.self.inside.vars c.self.inside.kept c.as_slice.result.now c.self.invariant.within);
      room = omega (arith, line);
      begun = omega arith;
      lines = omega (arith, line);
      fault = c.self.invariant.fault;
      vars = c.self.invariant.vars;
      given = c.self.invariant.given;
    }

pub invariant_of-self-2 : goal.invariant_of-self-2
invariant_of-self-2 c =
    let line = ap (λ (s : Checking). s.line) c.self.view_is in
    record {
      few = c.self.invariant.few;
      within = subst (AreWithin c.self.inside.vars) (sym c.new.ensures) (AreWithin-empty c.self.inside.vars);
      room = omega (arith, line);
      begun = omega arith;
      lines = omega (arith, line);
      fault = λ e. cc;
      vars = c.self.invariant.vars;
      given = c.self.invariant.given;
    }
