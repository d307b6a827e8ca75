use Rattle.std.proofs.Common.{◌≡◌, ◌∙◌, ◌++◌, ◌∷◌, [], Some, length, get_or, map, ap, sym, append-nil, option_to_list, arith}
use Rattle.order_formula.specs.declared.formula.Body.TheVariants.{Any}
use Rattle.order_formula.specs.declared.group.Group.TheVariants.{Stuck}
use Rattle.order_events.proofs.Loops.{each_more}
use Rattle.sync_order.specs.Stuck.{stuck_at}
use Rattle.sync_order.proofs.stuck.push_stuck.Goals as goal
use Rattle.sync_order.proofs.stuck.push_stuck.Goals.{in-Some+in_ok-cases+in_ok-push, in_default}

pub loop-place-preserved : goal.loop-place-preserved
loop-place-preserved c =
    let paths = c.args.paths.now in
    let place = c.loop-place.place in
    let walk = c.walk-item.result in
    let mid = c.loop-place.conjuncts.items in
    let all = c.threads-walk-items.ensures in
    each_more paths.threads place walk (omega (arith, c.loop-place-test.true, ap length all)) (c.walk-item.is ∙ ap (λ ws. get_or ws place walk) all)
    c.args.conjuncts.now.items mid c.match-blocked.conjuncts.items (λ t q. map (stuck_at paths t q) (option_to_list q.blocked)) c.loop-place.invariant
    (elim c.match-blocked.branch [
      | in-Some+in_ok-cases+in_ok-push w ↦
          let is : walk.blocked ≡ Some w.in-Some.blocked = sym c.blocked.ensures ∙ w.in-Some.is in
          let made = ap (λ cases. mid ++ record { group = Stuck place; body = Any cases } ∷ []) w.in_ok-cases.ensures in
          let next : mid ++ stuck_at paths place walk w.in-Some.blocked ∷ [] ≡ mid ++ map (stuck_at paths place walk) (option_to_list walk.blocked) =
          ap (λ o. mid ++ map (stuck_at paths place walk) (option_to_list o)) (sym is) in
          let pushed = w.in_ok-push.ensures.items in
          let same = made ∙ next in cc
      | in_default w ↦
          let is = sym c.blocked.ensures ∙ w.in_default.is in
          let next = sym (append-nil mid) ∙ ap (λ o. mid ++ map (stuck_at paths place walk) (option_to_list o)) (sym is) in cc
    ])
