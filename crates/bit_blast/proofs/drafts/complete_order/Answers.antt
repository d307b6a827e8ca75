use Rattle.std.proofs.Common.{◌<◌, sym, ◌∙◌, subst}
use Rattle.std.specs.List.{All}
use Rattle.bit_blast.proofs.Completed.{contended_within}
use Rattle.bit_blast.proofs.drafts.complete_order.Goals as goal

pub complete-requires-clause-events : goal.complete-requires-clause-events
complete-requires-clause-events c =
    subst (All (λ e. e < c.args.order.events)) (sym (c.as_slice.ensures.keys ∙ c.in_ok-events.ensures))
    (contended_within c.args.order c.args.formula.now c.requires.within)
