use Rattle.std.proofs.Common.{subst, sym, IfOk}
use Rattle.store_buffers.specs.Buffers.{buffer_of}
use Rattle.least_switch.specs.clap_solve.Clauses.{bound_of}
use Rattle.least_switch.specs.Least.{IsLeast}
use Rattle.least_command.proofs.search.least_under.Goals as goal

pub returns-in-Sc-clause-found : goal.returns-in-Sc-clause-found
returns-in-Sc-clause-found c =
    subst (λ m. IfOk c.least.result (IsLeast (buffer_of m) m (bound_of m) c.args.code.now c.args.log.now.log c.args.budget.conflicts))
    (sym c.in-Sc.is) c.least.ensures.ok

pub returns-in-Tso-clause-found : goal.returns-in-Tso-clause-found
returns-in-Tso-clause-found c =
    subst (λ m. IfOk c.least-in-Tso.result (IsLeast (buffer_of m) m (bound_of m) c.args.code.now c.args.log.now.log c.args.budget.conflicts))
    (sym c.in-Tso.is) c.least-in-Tso.ensures.ok

pub returns-in-Pso-clause-found : goal.returns-in-Pso-clause-found
returns-in-Pso-clause-found c =
    subst (λ m. IfOk c.least-in-Pso.result (IsLeast (buffer_of m) m (bound_of m) c.args.code.now c.args.log.now.log c.args.budget.conflicts))
    (sym c.in-Pso.is) c.least-in-Pso.ensures.ok
