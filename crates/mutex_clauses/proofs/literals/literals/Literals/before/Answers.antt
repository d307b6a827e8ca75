use Rattle.std.proofs.Common.{◌∙◌, ap, ap₂}
use Rattle.std.specs.Prelude.{◌==◌, ◌&&◌}
use Rattle.std.specs.List.{position_or_len}
use Rattle.bit_order.specs.Comparators.{before_literal}
use Rattle.mutex_clauses.proofs.literals.literals.Literals.before.Goals as goal

pub returns : goal.returns
returns c =
    c.before-2.ensures
    ∙ ap₂ (before_literal c.args.self.now.layout.now)
    (c.number-first.ensures ∙ ap (λ es. position_or_len (λ e. e.thread == c.args.thread && e.it.step == c.args.step) es) c.requires)
    (c.number-second.ensures ∙ ap (λ es. position_or_len (λ e. e.thread == c.args.other && e.it.step == c.args.later) es) c.requires)
