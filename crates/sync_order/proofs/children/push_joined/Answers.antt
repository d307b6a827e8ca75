use Rattle.std.proofs.Common.{◌≡◌, ◌∙◌, ◌++◌, ◌∷◌, [], true, false, cond, ap, sym, append-nil, arith}
use Rattle.order_events.proofs.Loops.{each_more}
use Rattle.sync_order.specs.Children.{exited_before, is_child}
use Rattle.sync_order.proofs.children.push_joined.Goals as goal
use Rattle.sync_order.proofs.children.push_joined.Goals.{then-is_child_of+in_ok-exited_before+in_ok-push, else-is_child_of}

pub loop-child-preserved : goal.loop-child-preserved
loop-child-preserved c =
    let threads = c.args.threads.now in
    let walk = c.args.walk.now in
    let link = c.args.link in
    let child = c.loop-child.child in
    let thread = c.index-threads-child.result in
    let mid = c.loop-child.conjuncts.items in
    let before = exited_before c.args.events.now c.args.place link child thread ∷ [] in
    each_more threads child thread (omega (arith, c.loop-child-test.true)) c.index-threads-child.is c.args.conjuncts.now.items mid
    c.if-is_child_of.conjuncts.items
    (λ d q. cond (is_child walk link.child q) (exited_before c.args.events.now c.args.place link d q ∷ []) []) c.loop-child.invariant
    (elim c.if-is_child_of.branch [
      | then-is_child_of+in_ok-exited_before+in_ok-push w ↦
          let is : is_child walk link.child thread ≡ true = sym c.is_child_of.ensures ∙ w.if-is_child_of.true in
          let next = ap (λ z. mid ++ z ∷ []) w.in_ok-exited_before.ensures ∙ ap (λ b. mid ++ cond b before []) (sym is) in
          let pushed = w.in_ok-push.ensures.items in cc
      | else-is_child_of w ↦
          let is : is_child walk link.child thread ≡ false = sym c.is_child_of.ensures ∙ w.if-is_child_of.false in
          let next = sym (append-nil mid) ∙ ap (λ b. mid ++ cond b before []) (sym is) in cc
    ])
