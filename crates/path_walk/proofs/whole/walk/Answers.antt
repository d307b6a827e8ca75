use Rattle.std.proofs.Common.{◌≡◌, ◌∙◌, ◌<◌, ap, sym, subst, arith, length, get_or}
use Rattle.std.proofs.lemmas.Bool.{and_parts}
use Rattle.path_walk.specs.Fits.{IsFault}
use Rattle.path_walk.specs.helpers.Drafts.{finished}
use Rattle.path_walk.specs.declared.fault.WalkFault.TheVariants.{Unfit}
use Rattle.path_walk.specs.declared.fault.Misfit.TheVariants.{Missing}
use Rattle.path_walk.proofs.Drafts.{has_thread, main_missing, is_nonempty, whole_ok, whole_err}
use Rattle.path_walk.proofs.whole.walk.Goals as goal

pub returns-then-not-is_empty-clause-err : goal.returns-then-not-is_empty-clause-err
returns-then-not-is_empty-clause-err c =
    let is_log = and_parts _ _ c.threads.ensures.is_log in
    let some = has_thread c.args.log.now.log.failing (length c.args.log.now.log.threads) is_log.1 in
    let t = c.index-threads-0.result in
    let first : t ≡ get_or c.args.log.now.log.threads 0 t = c.index-threads-0.is ∙ ap (λ ts. get_or ts 0 t) c.threads.ensures.threads in
    let name = is_nonempty c.children.result.now (sym c.is_empty.ensures ∙ c.if-not-is_empty.true) in
    let long : 0 < length t.name = omega (arith, name, ap length c.children.ensures, ap length c.name.ensures) in
    subst (λ n. IsFault c.args.code.now c.args.log.now.log (Unfit n Missing)) (sym c.main.ensures)
    (main_missing c.args.code.now c.args.log.now.log is_log.0 t first (omega (arith, some)) long)

pub returns-clause-fits : goal.returns-clause-fits
returns-clause-fits c =
    let all : length c.loop-thread.draft.threads ≡ length c.args.log.now.log.threads =
    omega (arith, c.loop-thread.invariant.count, ap length c.threads-thread-items.ensures.threads) in
    whole_ok c.args.code.now c.args.log.now.log c.loop-thread.draft c.loop-thread.invariant.draft all c.finish.result
    (c.finish.ensures ∙ ap (finished c.loop-thread.draft) c.failing.ensures.ending)

pub returns-clause-err : goal.returns-clause-err
returns-clause-err c =
    let all : length c.loop-thread.draft.threads ≡ length c.args.log.now.log.threads =
    omega (arith, c.loop-thread.invariant.count, ap length c.threads-thread-items.ensures.threads) in
    whole_err c.args.code.now c.args.log.now.log c.loop-thread.draft c.loop-thread.invariant.draft all c.finish.result
    (c.finish.ensures ∙ ap (finished c.loop-thread.draft) c.failing.ensures.ending)
