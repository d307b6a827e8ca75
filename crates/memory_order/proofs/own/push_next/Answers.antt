use Rattle.std.proofs.Common.{◌++◌, ◌∙◌, ◌∷◌, [], ap, sym, cond, append-nil}
use Rattle.order_events.specs.Parts.{one_of}
use Rattle.order_formula.specs.declared.group.Group.TheVariants.{Own}
use Rattle.memory_order.specs.helpers.Twos.{plain}
use Rattle.memory_order.specs.Own.{in_order}
use Rattle.memory_order.proofs.Stay.{next_later}
use Rattle.memory_order.proofs.own.push_next.Goals as goal

pub returns-in_ok-push : goal.returns-in_ok-push
returns-in_ok-push g c = λ later grows.
    let t = c.args.thread.now in
    let p = plain c.args.two.now in
    let one = one_of (Own t.number) (in_order c.args.events.now t.number p ∷ []) in
    let next = next_later t.symbolic.now c.args.terms.now c.requires later grows g.M.MemoryModel.BUFFERED g.M.MemoryModel.bound t.number p in
    c.in_ok-push.ensures.items ∙ ap (λ k. c.args.conjuncts.now.items ++ k ∷ []) c.in_ok-kept.ensures
    ∙ sym (ap (λ b. c.args.conjuncts.now.items ++ cond b (one ∷ []) []) (next ∙ sym c.is_kept_next.ensures ∙ c.if-is_kept_next.true))

pub returns-else-is_kept_next : goal.returns-else-is_kept_next
returns-else-is_kept_next g c = λ later grows.
    let t = c.args.thread.now in
    let p = plain c.args.two.now in
    let one = one_of (Own t.number) (in_order c.args.events.now t.number p ∷ []) in
    let next = next_later t.symbolic.now c.args.terms.now c.requires later grows g.M.MemoryModel.BUFFERED g.M.MemoryModel.bound t.number p in
    sym (ap (λ b. c.args.conjuncts.now.items ++ cond b (one ∷ []) []) (next ∙ sym c.is_kept_next.ensures ∙ c.if-is_kept_next.false)
    ∙ append-nil c.args.conjuncts.now.items)
