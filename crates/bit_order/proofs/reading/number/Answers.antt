use Rattle.std.proofs.Common.{◌≡◌, ◌+◌, ◌*◌, Bool, true, false, refl, ap, sym, ◌∙◌, arith}
use mir.Val.{bool_byte}
use Rattle.cnf_core.specs.Clauses.{Valuation, value_in}
use Rattle.bit_words.specs.Laws.{digit, value}
use Rattle.bit_order.specs.Layouts.{word_from}
use Rattle.bit_order.proofs.WordLaws.{value_none, value_more, word_below}
use Rattle.bit_order.proofs.reading.number.Goals as goal

byte_digit : (b : Bool) → bool_byte b ≡ digit b
byte_digit true = refl
byte_digit false = refl

pub loop-place-init : goal.loop-place-init
loop-place-init c = record { number = sym (value_none (value_in c.args.assignment.now) c.args.first); below = omega arith }

pub loop-place-preserved : goal.loop-place-preserved
loop-place-preserved c =
    let v : Valuation = value_in c.args.assignment.now in
    let first = c.args.first in
    let place = c.loop-place.place in
    let bit : c.from.result ≡ digit (v (first + place)) = c.from.ensures ∙ byte_digit c.get.result ∙ ap digit c.get.ensures in
    let next : 2 * c.loop-place.number + c.from.result ≡ value v (word_from first (place + 1)) =
    omega (arith, value_more v first place c.requires.positive, bit, c.loop-place.invariant.number) in
    record { number = next; below = omega (arith, next, word_below v first (place + 1)) }
