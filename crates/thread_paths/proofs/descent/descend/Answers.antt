use Rattle.std.proofs.Common.{◌∙◌, subst}
use Rattle.thread_marks.proofs.Owning.{none_marked}
use Rattle.slot_liveness.specs.Tables.{liveness}
use Rattle.thread_paths.specs.helpers.Descents.{IsAdvance}
use Rattle.thread_paths.specs.declared.descent.Advance.{Advance}
use Rattle.thread_paths.proofs.Nodes.{first_node}
use Rattle.thread_paths.proofs.descent.descend.Goals as goal

pub loop-steps-init : goal.loop-steps-init
loop-steps-init c =
    first_node c.args.program.code.now c.args.scope c.args.outcomes.now.items c.args.least c.requires.few c.requires.steps _
    (c.in_ok-at_start.ensures ∙ none_marked c.args.program.code.now c.args.scope.function) c.in_ok-at_start-2.ensures c.new.ensures.items

pub returns-in-Ends : goal.returns-in-Ends
returns-in-Ends c =
    subst (λ (a : Advance). IsAdvance c.args.program.code.now (liveness c.args.program.live.now) c.args.scope c.args.outcomes.now.items c.args.least c.loop-steps.steps c.go_on.new.outcomes.items
    c.go_on.new.past a) c.in-Ends.is (c.in_ok-to.ensures c.args.outcomes.now.items c.args.least c.loop-steps.invariant)
