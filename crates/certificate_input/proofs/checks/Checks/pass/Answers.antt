use Rattle.std.proofs.Common.{◌∙◌, sym}
use Rattle.std.proofs.lemmas.Bool.{false≢true}
use Rattle.certificate_input.proofs.Stages.{following_of, refuted, unrefuted}
use Rattle.certificate_input.proofs.checks.Checks.pass.Goals as goal

pub returns-in_default-clause-refused : goal.returns-in_default-clause-refused
returns-in_default-clause-refused c = λ is. absurd (false≢true (sym is))

pub returns-in_default-clause-passed : goal.returns-in_default-clause-passed
returns-in_default-clause-passed c = λ is code lawful was. was.at

pub returns-then-not-is_closed-clause-refused : goal.returns-then-not-is_closed-clause-refused
returns-then-not-is_closed-clause-refused c = λ is code was.
    unrefuted code c.args.self.now.header c.args.self.now.place was.at c.in-Some.checker
    (following_of code c.args.self.now c.in-Some.checker c.in-Some.is was)
    (λ closed. false≢true (sym c.if-not-is_closed.true ∙ c.is_closed.ensures.1 closed))

pub returns-then-not-is_closed-clause-passed : goal.returns-then-not-is_closed-clause-passed
returns-then-not-is_closed-clause-passed c = λ is. absurd (false≢true is)

pub rule_out-requires : goal.rule_out-requires
rule_out-requires c =
    let code = c.requires.0 in
    let was = c.requires.1 in
    let f = following_of code c.args.self.now c.in-Some.checker c.in-Some.is was in (code, c.args.self.now.header, f.log, was.at, f.of)

pub returns-clause-refused : goal.returns-clause-refused
returns-clause-refused c = λ is. absurd (false≢true (sym is))

pub returns-clause-passed : goal.returns-clause-passed
returns-clause-passed c = λ is code lawful was.
    let h = c.args.self.now.header in
    let p = c.args.self.now.place in
    let f = following_of code c.args.self.now c.in-Some.checker c.in-Some.is was in
    c.rule_out.ensures code h f.log was.at f.of
    (refuted code h p was.at c.in-Some.checker f lawful (c.is_closed.ensures.0 c.if-not-is_closed.false))
