use Rattle.std.proofs.Common.{◌∙◌, sym, arith}
use Rattle.order_events.proofs.Numbers.{first_is, none_is}
use Rattle.mutex_states.specs.InOrder.{is_read_of}
use Rattle.mutex_clauses.proofs.literals.literals.read_number.Goals as goal

pub returns-then-is_read_of : goal.returns-then-is_read_of
returns-then-is_read_of c =
    c.loop-conjunct.invariant.number
    ∙ first_is (λ x. is_read_of c.args.event x.body) c.args.conjuncts.now c.loop-conjunct.conjunct-index c.conjunct-item.result
    c.loop-conjunct.invariant.none
    c.loop-conjunct-test.true c.conjunct-item.is (sym c.is_read_of.ensures ∙ c.if-is_read_of.true)

pub returns : goal.returns
returns c =
    c.loop-conjunct.invariant.number
    ∙ none_is (λ x. is_read_of c.args.event x.body) c.args.conjuncts.now c.loop-conjunct.conjunct-index c.loop-conjunct.invariant.none
    (omega (arith, c.loop-conjunct-test.false, c.loop-conjunct.auto.conjunct-index-end))
