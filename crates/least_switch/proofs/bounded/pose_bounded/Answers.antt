use Rattle.std.proofs.Common.{◌∙◌, refl, subst, sym}
use Rattle.std.proofs.lemmas.Result.{err_from_is_err_and}
use Rattle.clap_system.specs.Ready.{IsSound}
use Rattle.clap_solve.proofs.Posing.{within_by}
use Rattle.least_switch.proofs.Parts.{is_askable, is_bounded}
use Rattle.least_switch.proofs.bounded.pose_bounded.Goals as goal

pub clauses-requires-clause-askable : goal.clauses-requires-clause-askable
clauses-requires-clause-askable g c =
    let buffered = g.M.MemoryModel.BUFFERED in
    let bound = g.M.MemoryModel.bound in
    let b = c.in_ok-build.ensures in
    let parts = c.into_parts-execution.ensures in
    is_askable buffered bound c.args.code.now c.args.log.now.log c.functions-functions.ensures.lawful
    (within_by buffered bound c.args.code.now c.args.log.now.log c.in_ok-build.field-0 b.system b.shallow b.fits b.events b.operators) b.steps _
    (parts.parts ∙ b.system) (subst IsSound (sym parts.parts) parts.sound)

pub returns-clause-bounded : goal.returns-clause-bounded
returns-clause-bounded g c =
    let buffered = g.M.MemoryModel.BUFFERED in
    let bound = g.M.MemoryModel.bound in
    let b = c.in_ok-build.ensures in
    is_bounded buffered bound c.args.code.now c.args.log.now.log c.functions-functions.ensures.lawful
    (within_by buffered bound c.args.code.now c.args.log.now.log c.in_ok-build.field-0 b.system b.shallow b.fits b.events b.operators) b.steps _
    (c.into_parts-execution.ensures.parts ∙ b.system) c.args.most (c.in_ok-layout.layout, c.in_ok-layout.clauses) c.in_ok-layout.ensures
    c.into_parts-execution.result.0 refl

pub returns-in_err-layout-clause-err : goal.returns-in_err-layout-clause-err
returns-in_err-layout-clause-err g c =
    let p = err_from_is_err_and c.from_residual-in_err-layout.result c.from_residual-in_err-layout.ensures.1 in rw (p.1, p.2) tt
