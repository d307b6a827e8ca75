use Rattle.std.proofs.Common.{◌≡◌, ℕ, ◌+◌, ◌*◌, ◌<◌, ◌≤◌, List, ℤ, refl, ap, sym, ◌∙◌, subst, arith, length}
use Rattle.std.specs.List.{flat_map, range_with_len}
use Rattle.std.proofs.Math.Nat.{mul-le-mul}
use Rattle.std.proofs.lemmas.List.{length-append}
use Rattle.order_formula.specs.Orders.{Order, IsOrder}
use Rattle.order_formula.specs.declared.order.Choice.{Choice}
use Rattle.bit_order.specs.Layouts.{exclusion}
use Rattle.bit_order.proofs.Counts.{excluded_few}
use Rattle.bit_order.proofs.Ranges.{pieces_step}
use Rattle.bit_order.proofs.choices.exclude.Goals as goal

-- the clauses that a choice adds, by the choices as they were read
added_few : (start : ℕ) (choices : List Choice) (order : Order) (later : ℕ) → choices ≡ order.choices → IsOrder order → later < length choices
    → length (flat_map (λ earlier. exclusion start choices earlier later) (range_with_len 0 later)) ≤ order.events
added_few start choices order later same is below =
    subst (λ cs. length (flat_map (λ earlier. exclusion start cs earlier later) (range_with_len 0 later)) ≤ order.events) (sym same)
    (excluded_few start order later is (omega (arith, below, ap length same)))

pub exclude_earlier-requires-clause-room : goal.exclude_earlier-requires-clause-room
exclude_earlier-requires-clause-room c =
    let order = c.args.order.now in
    let later = c.loop-later.later in
    let choices : List Choice = c.choices-choices.result.now in
    let few = added_few c.args.start choices order later c.choices-choices.ensures c.requires.lawful c.loop-later-test.true in
    let rows : (later + 1) * order.events ≤ length order.choices * order.events =
    mul-le-mul {n₁ = later + 1} {m₁ = order.events} {n₂ = length order.choices} {m₂ = order.events}
    (omega (arith, c.loop-later-test.true, ap length c.choices-choices.ensures)) (omega arith) in
    omega (arith, few, rows, c.loop-later.invariant.few, c.requires.room)

pub loop-later-preserved : goal.loop-later-preserved
loop-later-preserved c =
    let choices : List Choice = c.choices-choices.result.now in
    let f : ℕ → List (List ℤ) = λ later. flat_map (λ earlier. exclusion c.args.start choices earlier later) (range_with_len 0 later) in
    let later = c.loop-later.later in
    let now = c.loop-later.circuit.clauses in
    let next = c.exclude_earlier.new.circuit.clauses in
    let few = added_few c.args.start choices c.args.order.now later c.choices-choices.ensures c.requires.lawful c.loop-later-test.true in
    let more : length next ≡ length now + length (f later) = ap length c.in_ok-exclude_earlier.ensures.clauses ∙ length-append now (f later) in
    record {
      vars = c.in_ok-exclude_earlier.ensures.vars ∙ c.loop-later.invariant.vars;
      clauses = pieces_step f 0 later later c.args.circuit.now.clauses now next (f later)
          c.loop-later.invariant.clauses c.in_ok-exclude_earlier.ensures.clauses refl (omega arith);
      few = omega (arith, more, few, c.loop-later.invariant.few);
    }
