use Rattle.std.proofs.Common.{◌≡◌, subst, sym, IfOk}
use Rattle.refute_check.specs.Refutations.{start}
use Rattle.store_buffers.specs.Buffers.{buffer_of}
use Rattle.clap_solve.specs.Clauses.{bound_of}
use Rattle.switch_clauses.specs.Clauses.{switch_clauses}
use Rattle.refutation_input.proofs.start.start_up_to.Goals as goal

pub returns-in-Sc-clause-checker : goal.returns-in-Sc-clause-checker
returns-in-Sc-clause-checker c =
    subst (λ m. IfOk c.check_least_start.result (λ checker. checker ≡ start (switch_clauses (buffer_of m).buffered (bound_of m) c.args.code.now c.args.log.now.log c.args.most)))
    (sym c.in-Sc.is) c.check_least_start.ensures.ok

pub returns-in-Tso-clause-checker : goal.returns-in-Tso-clause-checker
returns-in-Tso-clause-checker c =
    subst (λ m. IfOk c.check_least_start-in-Tso.result (λ checker. checker ≡ start (switch_clauses (buffer_of m).buffered (bound_of m) c.args.code.now c.args.log.now.log c.args.most)))
    (sym c.in-Tso.is) c.check_least_start-in-Tso.ensures.ok

pub returns-in-Pso-clause-checker : goal.returns-in-Pso-clause-checker
returns-in-Pso-clause-checker c =
    subst (λ m. IfOk c.check_least_start-in-Pso.result (λ checker. checker ≡ start (switch_clauses (buffer_of m).buffered (bound_of m) c.args.code.now c.args.log.now.log c.args.most)))
    (sym c.in-Pso.is) c.check_least_start-in-Pso.ensures.ok
