use Rattle.std.proofs.Common.{sym, subst}
use Rattle.certified_logs.specs.Places.{IsAt, IsNextAt}
use Rattle.certificate_input.proofs.checks.Checks.next.Goals as goal

pub pass-requires : goal.pass-requires
pass-requires c = (c.args.code.now, c.requires)

pub returns-then-not-pass-clause-next : goal.returns-then-not-pass-clause-next
returns-then-not-pass-clause-next c = c.pass.ensures.refused c.if-not-pass.true c.args.code.now c.requires

pub next-requires : goal.next-requires
next-requires c = record {
  at = subst (λ h. IsAt c.args.code.now h c.pass.new.self.place) (sym c.pass.ensures.header)
      (c.pass.ensures.passed c.if-not-pass.false c.args.code.now c.functions-functions.ensures.lawful c.requires);
}

pub returns-clause-next : goal.returns-clause-next
returns-clause-next c = subst (λ h. IsNextAt c.args.code.now h c.next.new.self c.in_ok-next.next) c.pass.ensures.header c.in_ok-next.ensures
