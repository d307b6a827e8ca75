use Rattle.std.proofs.Common.{◌≡◌, ◌∙◌, ◌++◌, ◌&&◌, ◌==◌, [], ◌<◌, true, false, cond, length, get_or, map, ap, sym, append-nil, eq-eqb, ne_eqb, arith}
use Rattle.std.proofs.lemmas.Bool.{and_from, and_left, and_right}
use Rattle.std.proofs.lemmas.List.{get_or_default}
use Rattle.order_events.proofs.Lists.{some_of}
use Rattle.order_events.proofs.Loops.{each_more}
use Rattle.sync_order.specs.Stuck.{sleeping, unended, not_ended_literal}
use Rattle.sync_order.proofs.stuck.sleeps_on.Goals as goal
use Rattle.sync_order.proofs.stuck.sleeps_on.Goals.{
  then-placed-thread+then-placed-step+in_ok-enders+in_ok-push_unended,
  else-placed-thread,
  else-placed-thread-via-then-placed-thread+else-placed-step,
  else-placed-thread-via-else-placed-thread,
}

pub loop-number-preserved : goal.loop-number-preserved
loop-number-preserved c =
    let events = c.args.events.now in
    let sleeps = c.args.sleeps.now in
    let all = c.all-placed-items.result.now in
    let t = c.args.thread in
    let k = c.args.step in
    let number = c.loop-number.number in
    let within = c.loop-number-test.true in
    let first = some_of all number within in
    let x = get_or all number first in
    let mid = c.loop-number.literals.items in
    let own = unended events number x.it.condition in
    let is = c.all-placed-items.ensures in
    let inside : number < length sleeps = omega (arith, within, ap length is) in
    each_more sleeps number x inside (ap (λ xs. get_or xs number first) is ∙ get_or_default sleeps number first x inside)
    [] mid c.if-placed-thread.literals.items (sleeping events t k) c.loop-number.invariant
    (elim c.if-placed-thread.branch [
      | then-placed-thread+then-placed-step+in_ok-enders+in_ok-push_unended w ↦
          let is : (x.thread == t && x.it.step == k) ≡ true =
          and_from (x.thread == t) (x.it.step == k)
          (eq-eqb x.thread t (ap (λ s. s.thread) (get_or_default all number first _ within) ∙ w.if-placed-thread.true))
          (eq-eqb x.it.step k (ap (λ s. s.it.step) (get_or_default all number first _ within) ∙ w.if-placed-step.true)) in
          let whole : map (not_ended_literal number) w.as_slice.result.now ≡ own =
          ap (map (not_ended_literal number)) (w.as_slice.ensures.value ∙ w.in_ok-enders.ensures)
          ∙ ap (λ s. unended events number s.it.condition) (sym (get_or_default all number first _ within)) in
          let same = ap (λ zs. mid ++ zs) whole ∙ ap (λ b. mid ++ cond b own []) (sym is) in
          let pushed = w.in_ok-push_unended.ensures in cc
      | else-placed-thread w ↦
          let next = λ (other : (x.thread == t && x.it.step == k) ≡ false). sym (append-nil mid) ∙ ap (λ b. mid ++ cond b own []) (sym other) in
          elim w.else-placed-thread.branch [
            | else-placed-thread-via-then-placed-thread+else-placed-step v ↦
                let apart = ne_eqb x.it.step k (λ e. v.if-placed-step.false (sym (ap (λ s. s.it.step) (get_or_default all number first _ within)) ∙ e)) in
                let same = next (and_right (x.thread == t) (x.it.step == k) apart) in cc
            | else-placed-thread-via-else-placed-thread v ↦
                let apart = ne_eqb x.thread t (λ e. v.if-placed-thread.false (sym (ap (λ s. s.thread) (get_or_default all number first _ within)) ∙ e)) in
                let same = next (and_left (x.thread == t) (x.it.step == k) apart) in cc
          ]
    ])
