use Rattle.std.proofs.Common.{◌≡◌, ◌+◌, ◌≢◌, ◌∙◌, ap, sym, arith, Err, take}
use Rattle.std.proofs.lemmas.Grind.{common_steps}
use Rattle.std.specs.List.{fold}
use Rattle.refute_check.specs.Refutations.{Checking, check, state_after_line, start, opening}
use Rattle.refute_check.specs.declared.verdict.CheckFault.TheVariants.{Memory}
use Rattle.refute_check.proofs.Checkings.{check-at, start-line, start-fault}
use Rattle.refute_check.proofs.Sound.{closed-means-unsatisfiable}
use Rattle.refute_check.proofs.whole.check.Goals as goal

pub loop-line-init : goal.loop-line-init
loop-line-init c =
    record {
      state = c.in-Ok.ensures;
      none = ap (λ (s : Checking). s.fault) c.in-Ok.ensures ∙ start-fault (opening c.args.cnf.now.vars) c.args.cnf.now.clauses;
      count = ap (λ (s : Checking). s.line) c.in-Ok.ensures ∙ start-line (opening c.args.cnf.now.vars) c.args.cnf.now.clauses;
    }

pub returns-in_err-add-clause-verdict : goal.returns-in_err-add-clause-verdict
returns-in_err-add-clause-verdict c =
    λ ne.
    let is : c.from_residual.result ≡ Err c.in_err-add.field-0.0 = grind (arith, common_steps) in
    let other : c.in_err-add.field-0.0 ≢ Memory = λ m. ne (is ∙ ap (λ f. Err f) m) in
    let p = c.in_err-add.ensures.fault other in
    let e : c.add.new.self ≡ fold state_after_line (start c.args.cnf.now) (take (c.loop-line.line-index + 1) c.args.derivation.now) = grind (arith, common_steps, p.0) in
    is ∙ check-at (start c.args.cnf.now) c.add.new.self c.args.derivation.now (c.loop-line.line-index + 1) c.in_err-add.field-0.0 e p.1

pub returns-clause-closed : goal.returns-clause-closed
returns-clause-closed c =
    λ closed.
    let e : c.verdict.result ≡ check c.args.cnf.now c.args.derivation.now = grind (arith, common_steps) in
    closed-means-unsatisfiable c.args.cnf.now c.args.derivation.now (sym e ∙ closed)
