use Rattle.std.proofs.Common.{◌≡◌, subst, sym, IfOk}
use Rattle.clap_solve.specs.Clauses.{model_clauses}
use Rattle.cnf_command.proofs.export.clauses_under.Goals as goal

pub returns-in-Sc-clause-clauses : goal.returns-in-Sc-clause-clauses
returns-in-Sc-clause-clauses c = subst (λ m. IfOk c.clauses.result (λ f. f ≡ model_clauses m c.args.code.now c.args.log.now.log)) (sym c.in-Sc.is) c.clauses.ensures.ok

pub returns-in-Tso-clause-clauses : goal.returns-in-Tso-clause-clauses
returns-in-Tso-clause-clauses c = subst (λ m. IfOk c.clauses-in-Tso.result (λ f. f ≡ model_clauses m c.args.code.now c.args.log.now.log)) (sym c.in-Tso.is) c.clauses-in-Tso.ensures.ok

pub returns-in-Pso-clause-clauses : goal.returns-in-Pso-clause-clauses
returns-in-Pso-clause-clauses c = subst (λ m. IfOk c.clauses-in-Pso.result (λ f. f ≡ model_clauses m c.args.code.now c.args.log.now.log)) (sym c.in-Pso.is) c.clauses-in-Pso.ensures.ok
