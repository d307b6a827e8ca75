use Rattle.std.proofs.Common.{◌∙◌, ◌<◌, arith, subst, sym}
use Rattle.std.specs.List.{All}
use Rattle.bit_blast.proofs.WholeLaws.{all_range}
use Rattle.least_switch.proofs.levels.ask_all.Goals as goal

pub complete-requires-clause-events : goal.complete-requires-clause-events
complete-requires-clause-events c =
    subst (All (λ e. e < c.args.order.events)) (sym (c.as_slice.ensures.value ∙ c.in_ok-events.ensures))
    (all_range (λ e. e < c.args.order.events) 0 c.events.result (λ k below. omega (arith, below, c.events.ensures)))
