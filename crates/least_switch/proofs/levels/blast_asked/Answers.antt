use Rattle.std.proofs.Common.{◌≡◌, ◌≤◌, arith, subst, sym}
use Rattle.std.specs.List.{All}
use Rattle.std.specs.Result.{IfOk}
use Rattle.order_formula.specs.Orders.{ConjunctIsIn, Order}
use Rattle.bit_blast.specs.Blasted.{blast}
use Rattle.clap_system.proofs.Built.{ok_weaker}
use Rattle.least_switch.proofs.Parts.{asked_events, asked_within, size_asked}
use Rattle.least_switch.proofs.levels.blast_asked.Goals as goal

pub blast-requires-clause-events : goal.blast-requires-clause-events
blast-requires-clause-events c =
    subst (λ (o : Order). o.events ≤ 256) (sym c.in_ok-order.ensures) (omega (arith, asked_events c.args.order, c.requires.events))

pub blast-requires-clause-within : goal.blast-requires-clause-within
blast-requires-clause-within c =
    subst (λ (o : Order). All (ConjunctIsIn o) c.args.formula.now) (sym c.in_ok-order.ensures)
    (asked_within c.args.order c.args.formula.now c.requires.within)

pub blast-requires-clause-room : goal.blast-requires-clause-room
blast-requires-clause-room c =
    let same = size_asked c.args.order c.in_ok-order.order c.args.loads c.args.terms.now c.args.formula.now c.in_ok-order.ensures in
    omega (arith, same, c.requires.room)

pub returns-clause-room : goal.returns-clause-room
returns-clause-room c =
    let same = size_asked c.args.order c.in_ok-order.order c.args.loads c.args.terms.now c.args.formula.now c.in_ok-order.ensures in
    ok_weaker c.blast.result _ _ c.blast.ensures.size (λ b few. (omega (arith, same, few.0, c.requires.room), omega (arith, same, few.1, c.requires.room)))

pub returns-clause-blasted : goal.returns-clause-blasted
returns-clause-blasted c =
    subst (λ (o : Order). IfOk c.blast.result (λ b. b ≡ blast c.args.terms.now c.args.formula.now o c.args.loads)) c.in_ok-order.ensures
    c.blast.ensures.blasted
