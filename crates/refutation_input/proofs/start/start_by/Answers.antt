use Rattle.std.proofs.Common.{◌≡◌, subst, sym, IfOk, Some}
use Rattle.refute_check.specs.Refutations.{start}
use Rattle.refutation_verdicts.specs.Refutations.{clauses_up_to}
use Rattle.refutation_input.proofs.start.start_by.Goals as goal

pub returns-in-None-clause-checker : goal.returns-in-None-clause-checker
returns-in-None-clause-checker c =
    subst (λ o. IfOk c.start_under.result (λ checker. checker ≡ start (clauses_up_to o c.args.head.model c.args.code.now c.args.log.now.log)))
    (sym c.in-None.is) c.start_under.ensures.checker

pub returns-in-Some-clause-checker : goal.returns-in-Some-clause-checker
returns-in-Some-clause-checker c =
    subst (λ o. IfOk c.start_up_to.result (λ checker. checker ≡ start (clauses_up_to o c.args.head.model c.args.code.now c.args.log.now.log)))
    (sym c.in-Some.is) (subst (λ n. IfOk c.start_up_to.result
    (λ checker. checker ≡ start (clauses_up_to (Some n) c.args.head.model c.args.code.now c.args.log.now.log))) c.from.ensures c.start_up_to.ensures.checker)
