use Rattle.std.proofs.Common.{◌∙◌, List, Some, MatchOption, get_or, refl, ap, sym, subst}
use Rattle.std.proofs.lemmas.Result.{IfOk-weaker}
use Rattle.refute_check.specs.declared.line.Line.{Line}
use Rattle.certificate_input.specs.Wrong.IsMalformed.{NoLine}
use Rattle.certificate_input.specs.helpers.Incoming.{IsChecking, IsWrongLine}
use Rattle.certificate_input.proofs.LineTexts.{first_text}
use Rattle.certificate_input.proofs.Stages.{fails_so, following_of, goes_on}
use Rattle.certificate_input.proofs.checks.Checks.take_line.Goals as goal

pub returns-in_default-clause-wrong : goal.returns-in_default-clause-wrong
returns-in_default-clause-wrong c = λ code was bytes number has there.
    NoLine c.args.line.now there (rw c.in_default.is at c.in_ok-derivation.ensures)

pub returns-in-Ok-clause-wrong : goal.returns-in-Ok-clause-wrong
returns-in-Ok-clause-wrong c = λ code was.
    goes_on code c.args.self.now _ c.in-Some-checker.checker c.add.new.self c.index-lines-0.result c.in-Some-checker.is refl refl refl c.in-Ok.ensures.ok.0 was

pub returns : goal.returns
returns c = record {
  header = IfOk-weaker c.refused.result _ _ (λ w is. refl) c.refused.ensures;
  wrong =
      IfOk-weaker c.refused.result _ _
      (λ w is code was.
      let self = c.args.self.now in
      let failed = c.in-Err.ensures.fault is.1 in
      let text = first_text c.args.line.now c.in-Some.derivation (rw c.in-Some.is at c.in_ok-derivation.ensures) c.index-lines-0.result
      (c.index-lines-0.is ∙ ap (λ (ms : List Line). get_or ms 0 c.index-lines-0.result) c.lines.ensures.lines) in
      subst
      (λ o. MatchOption o (IsChecking code (record { header = self.header; place = self.place; checker = Some c.add.new.self }))
      (IsWrongLine code self.header c.args.line.now)) (sym is.0)
      (fails_so code self.header self.place was.at c.in-Some-checker.checker (following_of code self c.in-Some-checker.checker c.in-Some-checker.is was)
      c.args.line.now c.index-lines-0.result c.add.new.self c.in-Err.fault text failed.0 failed.1)) c.refused.ensures;
}
