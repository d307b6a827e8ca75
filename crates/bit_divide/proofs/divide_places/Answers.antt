use Rattle.std.proofs.Common.{arith, ◌≡◌, ◌+◌, ◌-◌, ◌≤◌, ℕ, length, length-set}
use Rattle.bit_words.proofs.Loops.{within_set}
use Rattle.bit_divide.proofs.Moves.{divided_more, larger_place}
use Rattle.bit_divide.proofs.divide_places.Goals as goal

pub loop-place-preserved : goal.loop-place-preserved
loop-place-preserved g c =
    let j : ℕ = c.loop-place.place - 1 in
    let v = c.loop-place.invariant in
    let e : c.loop-place.place ≡ j + 1 = omega (arith, c.loop-place-test.true) in
    let le : c.loop-place.place ≤ length c.args.word.now = c.loop-place.auto.place in
    let r = divided_more c.args.circuit.now c.args.remainder.now c.args.opposite.now c.args.word.now c.loop-place.place j c.loop-place.circuit
    c.divide_place.new.circuit c.loop-place.remainder c.divide_place.new.remainder c.loop-place.word c.index-word-place.result c.in_ok-word.field-0
    (record { formula = v.formula; remainder = v.remainder; quotient = v.quotient; front = v.rest }) e le v.long c.index-word-place.is
    c.in_ok-word.ensures.formula c.in_ok-word.ensures.remainder c.in_ok-word.ensures.quotient in
    record {
      formula = r.formula;
      remainder = r.remainder;
      quotient = r.quotient;
      rest = r.front;
      word_within = within_set c.loop-place.circuit.vars c.divide_place.new.circuit.vars c.loop-place.word j c.in_ok-word.field-0
          c.in_ok-word.ensures.larger.0 v.word_within c.in_ok-word.ensures.quotient_within;
      remainder_within = c.in_ok-word.ensures.within;
      long = omega (arith, length-set c.loop-place.word j c.in_ok-word.field-0, v.long);
      larger = larger_place g.row.W (length c.args.word.now) c.loop-place.place j c.args.circuit.now c.loop-place.circuit c.divide_place.new.circuit v.larger
          c.in_ok-word.ensures.larger e le;
    }
