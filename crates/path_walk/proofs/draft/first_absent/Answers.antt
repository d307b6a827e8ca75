use Rattle.std.proofs.Common.{◌∙◌, sym}
use Rattle.path_walk.proofs.Drafts.{first_found}
use Rattle.path_walk.proofs.draft.first_absent.Goals as goal

pub returns-then-not-has_thread : goal.returns-then-not-has_thread
returns-then-not-has_thread c =
    first_found c.args.log.now.log c.args.parent.now c.loop-number.number c.args.count c.in_ok-name.name c.loop-number-test.true c.in_ok-name.ensures
    (sym c.has_thread.ensures ∙ c.if-not-has_thread.true) c.loop-number.invariant
