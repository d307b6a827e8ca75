use Rattle.std.proofs.Common.{subst, sym, IfErr, IfOk}
use Rattle.store_buffers.specs.Buffers.{buffer_of}
use Rattle.clap_solve.specs.Clauses.{bound_of}
use Rattle.clap_solve.specs.Faults.{IsCheckImpossibleFault}
use Rattle.why_impossible.specs.Explained.{IsExplained}
use Rattle.why_command.proofs.explain.why_under.Goals as goal

pub returns-in-Sc-clause-ok : goal.returns-in-Sc-clause-ok
returns-in-Sc-clause-ok c =
    subst (λ m. IfOk c.why.result (IsExplained (buffer_of m) (bound_of m) c.args.code.now c.args.log.now.log c.args.derivation.now)) (sym c.in-Sc.is)
    c.why.ensures.ok

pub returns-in-Sc-clause-err : goal.returns-in-Sc-clause-err
returns-in-Sc-clause-err c =
    subst (λ m. IfErr c.why.result (IsCheckImpossibleFault (buffer_of m).buffered (bound_of m) c.args.code.now c.args.log.now.log c.args.derivation.now))
    (sym c.in-Sc.is) c.why.ensures.err

pub returns-in-Tso-clause-ok : goal.returns-in-Tso-clause-ok
returns-in-Tso-clause-ok c =
    subst (λ m. IfOk c.why-in-Tso.result (IsExplained (buffer_of m) (bound_of m) c.args.code.now c.args.log.now.log c.args.derivation.now)) (sym c.in-Tso.is)
    c.why-in-Tso.ensures.ok

pub returns-in-Tso-clause-err : goal.returns-in-Tso-clause-err
returns-in-Tso-clause-err c =
    subst (λ m. IfErr c.why-in-Tso.result
    (IsCheckImpossibleFault (buffer_of m).buffered (bound_of m) c.args.code.now c.args.log.now.log c.args.derivation.now)) (sym c.in-Tso.is)
    c.why-in-Tso.ensures.err

pub returns-in-Pso-clause-ok : goal.returns-in-Pso-clause-ok
returns-in-Pso-clause-ok c =
    subst (λ m. IfOk c.why-in-Pso.result (IsExplained (buffer_of m) (bound_of m) c.args.code.now c.args.log.now.log c.args.derivation.now)) (sym c.in-Pso.is)
    c.why-in-Pso.ensures.ok

pub returns-in-Pso-clause-err : goal.returns-in-Pso-clause-err
returns-in-Pso-clause-err c =
    subst (λ m. IfErr c.why-in-Pso.result
    (IsCheckImpossibleFault (buffer_of m).buffered (bound_of m) c.args.code.now c.args.log.now.log c.args.derivation.now)) (sym c.in-Pso.is)
    c.why-in-Pso.ensures.err
