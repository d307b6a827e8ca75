use Rattle.std.proofs.Common.{ℕ, ◌*◌, ◌+◌, List, Bool, sym, subst, arith}
use denote.Enum.Bare.{sameb}
use Rattle.cdcl_trail.specs.Trail.{Trail, IsTrail, Is}
use Rattle.cdcl_trail.specs.contracts.trail.Value.{the_type}
use Rattle.cdcl_trail.specs.declared.trail.Value.{Value}
use Rattle.cdcl_trail.specs.declared.trail.Value.TheVariants.{Open, True, False}
use Rattle.cdcl_lines.specs.Models.{Agrees}
use Rattle.cdcl_lines.proofs.Valuing.{IsValue, AgreesBelow, value-true, value-false, value-open, agrees-more, agrees-all}
use Rattle.cdcl_lines.proofs.models.assignment_of.Goals as goal

is-value : (t : Trail) (v : ℕ) (x : Value) → IsTrail t → Is t (2 * v) x → IsValue t v (sameb the_type x True)
is-value t v True u h = value-true t v h
is-value t v False u h = value-false t v u h
is-value t v Open u h = value-open t v h

pub loop-number-preserved : goal.loop-number-preserved
loop-number-preserved c =
    let t : Trail = c.args.trail.now in
    let v : ℕ = c.loop-number.number in
    let known : Is t (2 * v) c.value.result = rw (c.positive-literal.ensures, c.new.ensures) at c.value.ensures in
    subst (λ (xs : List Bool). AgreesBelow t xs (v + 1)) (sym c.in_ok-push.ensures.items)
    (agrees-more t c.loop-number.values.items v c.eq.result c.loop-number.invariant
    (subst (λ (b : Bool). IsValue t v b) (sym c.eq.ensures) (is-value t v c.value.result c.requires.lawful known)))

pub returns : goal.returns
returns c =
    subst (λ (xs : List Bool). Agrees c.args.trail.now xs) (sym c.new-2.ensures)
    (agrees-all c.args.trail.now c.loop-number.values.items c.loop-number.number c.requires.lawful (omega arith) c.loop-number.invariant)
