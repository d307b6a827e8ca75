use Rattle.std.proofs.Common.{ap, sym, ◌∙◌}
use Rattle.cnf_core.specs.Clauses.{literal_true, value_in}
use Rattle.order_formula.specs.Orders.{Order}
use Rattle.bit_order.proofs.Chosen.{ender_first, ender_none}
use Rattle.bit_order.proofs.layout.Layout.read_ender.Goals as goal

pub returns-then-is_true : goal.returns-then-is_true
returns-then-is_true c =
    ender_first c.args.self.now (value_in c.args.assignment.now) c.args.sleep c.loop-number.number c.choices-choices.result.now
    (c.choices-choices.ensures ∙ ap (λ (o : Order). o.choices) c.order.ensures.order) c.loop-number.invariant c.loop-number-test.true c.if-choices-number.true
    (ap (literal_true (value_in c.args.assignment.now)) (sym c.choice.ensures) ∙ sym c.is_true.ensures ∙ c.if-is_true.true)

pub returns : goal.returns
returns c =
    ender_none c.args.self.now (value_in c.args.assignment.now) c.args.sleep c.loop-number.number c.choices-choices.result.now
    (c.choices-choices.ensures ∙ ap (λ (o : Order). o.choices) c.order.ensures.order) c.loop-number.invariant c.loop-number-test.false
