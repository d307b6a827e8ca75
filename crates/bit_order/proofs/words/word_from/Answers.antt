use Rattle.std.proofs.Common.{pos, arith}
use Rattle.bit_order.proofs.WordLaws.{word_filled}
use Rattle.bit_order.proofs.words.word_from.Goals as goal

pub returns : goal.returns
returns g c =
    word_filled c.loop-place.word c.args.first g.row.W (pos 0) c.loop-place.invariant.length
    (λ k less. c.loop-place.invariant.each k (omega (arith, less, c.loop-place-test.false)))
