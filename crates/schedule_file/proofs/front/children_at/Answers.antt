use Rattle.std.proofs.Common.{length, ap, sym, ◌∙◌}
use Rattle.schedule_file.proofs.Fronts.{goes_on, too_many, no_child, is_done, shorter}
use Rattle.schedule_file.proofs.front.children_at.Goals as goal

pub returns-then-children-eq-DEPTH : goal.returns-then-children-eq-DEPTH
returns-then-children-eq-DEPTH c =
    too_many c.loop-number.name c.loop-number.rest.now c.in-Some.number.now _ (ap length (sym c.children.ensures) ∙ c.if-children-eq-DEPTH.true)
    (sym c.in-Some.ensures) c.loop-number.invariant.read

pub returns-in_default-number_at : goal.returns-in_default-number_at
returns-in_default-number_at c =
    no_child c.loop-number.name c.loop-number.rest.now c.in-Some.number.now _ c.loop-number.invariant.few
    (λ e. c.if-children-eq-DEPTH.false (ap length c.children.ensures ∙ e))
    (sym c.in-Some.ensures) (sym c.in_default-number_at.ensures.number) c.loop-number.invariant.read

pub loop-number-smaller : goal.loop-number-smaller
loop-number-smaller c = shorter c.loop-number.rest.now c.in-Some.number.now c.in-Some-number_at.child c.in-Some-number_at.after.now
    (sym c.in-Some.ensures) (sym c.in-Some-number_at.ensures.number)

pub loop-number-preserved : goal.loop-number-preserved
loop-number-preserved c =
    goes_on c.loop-number.name c.loop-number.rest.now c.in-Some.number.now c.in-Some-number_at.child c.in-Some-number_at.after.now _
    c.loop-number.invariant.few (λ e. c.if-children-eq-DEPTH.false (ap length c.children.ensures ∙ e)) (sym c.in-Some.ensures)
    (sym c.in-Some-number_at.ensures.number) c.loop-number.invariant.read c.in_ok-name.name c.in_ok-name.ensures

pub returns : goal.returns
returns c = is_done c.loop-number.name c.loop-number.rest.now _ (sym c.in_default.ensures) c.loop-number.invariant.read
