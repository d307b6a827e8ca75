use Rattle.std.proofs.Common.{◌<◌, ap, arith, rules, length}
use Rattle.std.proofs.lemmas.List.Sums.{sum_by_more_le}
use Rattle.bit_blast.specs.Sizes.{literal_size}
use Rattle.bit_blast.proofs.cases.whole_case.Goals as goal

pub and-requires-clause-room : goal.and-requires-clause-room
and-requires-clause-room c =
    let literals = c.args.literals.now in
    let i = c.loop-literal.literal-index in
    let within : i < length literals = search rules in
    let here = ap literal_size c.literal-item.is in
    let more = sum_by_more_le literal_size literals i c.literal-item.result within in
    let was = c.loop-literal.invariant.larger in
    let now = c.in_ok-here.ensures.larger in
    (omega (arith, here, more, was.1, now.1, c.requires.room.0), omega (arith, here, more, was.2, now.2, c.requires.room.1))
