use Rattle.std.proofs.Common.{◌≡◌, subst, sym, IfOk}
use Rattle.refute_check.specs.Refutations.{start}
use Rattle.clap_solve.specs.Clauses.{model_clauses}
use Rattle.certified_logs.proofs.start.start_under.Goals as goal

pub returns-in-Sc-clause-checker : goal.returns-in-Sc-clause-checker
returns-in-Sc-clause-checker c =
    subst (λ m. IfOk c.check_start.result (λ checker. checker ≡ start (model_clauses m c.args.code.now c.args.log.now.log)))
    (sym c.in-Sc.is) c.check_start.ensures.ok

pub returns-in-Tso-clause-checker : goal.returns-in-Tso-clause-checker
returns-in-Tso-clause-checker c =
    subst (λ m. IfOk c.check_start-in-Tso.result (λ checker. checker ≡ start (model_clauses m c.args.code.now c.args.log.now.log)))
    (sym c.in-Tso.is) c.check_start-in-Tso.ensures.ok

pub returns-in-Pso-clause-checker : goal.returns-in-Pso-clause-checker
returns-in-Pso-clause-checker c =
    subst (λ m. IfOk c.check_start-in-Pso.result (λ checker. checker ≡ start (model_clauses m c.args.code.now c.args.log.now.log)))
    (sym c.in-Pso.is) c.check_start-in-Pso.ensures.ok
