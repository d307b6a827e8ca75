use Rattle.std.proofs.Common.{subst, sym, IfOk}
use Rattle.store_buffers.specs.Buffers.{buffer_of}
use Rattle.clap_solve.specs.Clauses.{bound_of}
use Rattle.clap_solve.specs.Imported.{IsImported}
use Rattle.import_command.proofs.imported.take_under.Goals as goal

pub returns-in-Sc-clause-taken : goal.returns-in-Sc-clause-taken
returns-in-Sc-clause-taken c = subst (λ m. IfOk c.take_answer.result (IsImported (buffer_of m) m (bound_of m) c.args.code.now c.args.log.now.log c.args.literals.now)) (sym c.in-Sc.is) c.take_answer.ensures.ok

pub returns-in-Tso-clause-taken : goal.returns-in-Tso-clause-taken
returns-in-Tso-clause-taken c = subst (λ m. IfOk c.take_answer-in-Tso.result (IsImported (buffer_of m) m (bound_of m) c.args.code.now c.args.log.now.log c.args.literals.now)) (sym c.in-Tso.is) c.take_answer-in-Tso.ensures.ok

pub returns-in-Pso-clause-taken : goal.returns-in-Pso-clause-taken
returns-in-Pso-clause-taken c = subst (λ m. IfOk c.take_answer-in-Pso.result (IsImported (buffer_of m) m (bound_of m) c.args.code.now c.args.log.now.log c.args.literals.now)) (sym c.in-Pso.is) c.take_answer-in-Pso.ensures.ok
