use Rattle.std.proofs.Common.{ℕ, subst}
use Rattle.cdcl_core.specs.helpers.States.{MarksReasons}
use Rattle.cdcl_core.proofs.Dropping.{few-where_none}
use Rattle.cdcl_core.proofs.state.State.choose.Goals as goal

pub returns-in-None-clause-none : goal.returns-in-None-clause-none
returns-in-None-clause-none c = λ e.
    let s = c.args.self.now in
    few-where_none s c.requires.live c.in_ok-reasons.reasons.items
    (subst (λ (n : ℕ). MarksReasons s.trail n c.in_ok-reasons.reasons.items) c.len.ensures c.in_ok-reasons.ensures) c.in-None.ensures
