use Rattle.std.proofs.Common.{◌≡◌, subst}
use Rattle.std.specs.Prelude.{IfOk}
use Rattle.order_formula.specs.Orders.{Order}
use Rattle.bit_blast.specs.Drafts.{drafted}
use Rattle.bit_blast.proofs.drafts.Draft.new.Goals as goal

pub returns-clause-draft : goal.returns-clause-draft
returns-clause-draft c =
    subst (λ (o : Order).
    IfOk c.draft_over.result (λ d. d ≡ drafted c.args.terms.now c.args.formula.now (record { order = o; loads = c.args.loads })))
    c.in_ok-order.ensures.completed c.draft_over.ensures.draft
