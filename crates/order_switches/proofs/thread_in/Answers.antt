use Rattle.std.proofs.Common.{◌≡◌, ◌∙◌, suc, ◌+◌, Some, cond, drop, get_or, sym, ap, arith}
use Rattle.std.proofs.lemmas.Bool.{eq-eqb, ne_eqb}
use Rattle.order_switches.specs.Switches.{thread_in}
use Rattle.order_switches.proofs.Threads.{thread_past, thread_step}
use Rattle.order_switches.proofs.thread_in.Goals as goal

pub returns-then-positions-event : goal.returns-then-positions-event
returns-then-positions-event c =
    let e = c.loop-event.event in
    let ts = c.args.threads.now in
    let qs = c.args.positions.now in
    let p = c.args.position in
    sym (ap (λ b. cond b (Some (get_or ts e 0)) (thread_in (drop (suc e) ts) (drop (suc e) qs) p)) (eq-eqb (get_or qs e 0) p c.if-positions-event.true))
    ∙ sym (thread_step ts qs p e (omega (arith, c.loop-event-test.true, c.min-event-end.ensures)) (omega (arith, c.loop-event-test.true, c.min-event-end.ensures)))
    ∙ c.loop-event.invariant

pub loop-event-preserved : goal.loop-event-preserved
loop-event-preserved c =
    let e = c.loop-event.event in
    let ts = c.args.threads.now in
    let qs = c.args.positions.now in
    let p = c.args.position in
    let next : e + 1 ≡ suc e = omega arith in
    ap (λ n. thread_in (drop n ts) (drop n qs) p) next
    ∙ sym (thread_step ts qs p e (omega (arith, c.loop-event-test.true, c.min-event-end.ensures)) (omega (arith, c.loop-event-test.true, c.min-event-end.ensures))
    ∙ ap (λ b. cond b (Some (get_or ts e 0)) (thread_in (drop (suc e) ts) (drop (suc e) qs) p)) (ne_eqb (get_or qs e 0) p c.if-positions-event.false))
    ∙ c.loop-event.invariant

pub returns : goal.returns
returns c =
    sym (thread_past c.args.threads.now c.args.positions.now c.args.position c.loop-event.event
    (omega (arith, c.loop-event-test.false, c.loop-event.auto.event-end, c.min-event-end.ensures)))
    ∙ c.loop-event.invariant
