use Rattle.std.proofs.Common.{subst, sym, IfOk}
use Rattle.store_buffers.specs.Buffers.{buffer_of}
use Rattle.clap_solve.specs.Clauses.{bound_of}
use Rattle.clap_solve.specs.Solved.{IsSolved}
use Rattle.solve_command.proofs.search.solve_under.Goals as goal

pub returns-in-Sc-clause-found : goal.returns-in-Sc-clause-found
returns-in-Sc-clause-found c =
    subst (λ m. IfOk c.solve.result (IsSolved (buffer_of m) m (bound_of m) c.args.code.now c.args.log.now.log c.args.budget.conflicts))
    (sym c.in-Sc.is) c.solve.ensures.ok

pub returns-in-Tso-clause-found : goal.returns-in-Tso-clause-found
returns-in-Tso-clause-found c =
    subst (λ m. IfOk c.solve-in-Tso.result (IsSolved (buffer_of m) m (bound_of m) c.args.code.now c.args.log.now.log c.args.budget.conflicts))
    (sym c.in-Tso.is) c.solve-in-Tso.ensures.ok

pub returns-in-Pso-clause-found : goal.returns-in-Pso-clause-found
returns-in-Pso-clause-found c =
    subst (λ m. IfOk c.solve-in-Pso.result (IsSolved (buffer_of m) m (bound_of m) c.args.code.now c.args.log.now.log c.args.budget.conflicts))
    (sym c.in-Pso.is) c.solve-in-Pso.ensures.ok
