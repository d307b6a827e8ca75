use Rattle.std.proofs.Common.{arith}
use Rattle.std.proofs.lemmas.Grind.{common_steps}
use Rattle.bit_shift.proofs.Moves.{shifted_more, shifted_all}
use Rattle.bit_shift.proofs.shift_in.Goals as goal

pub loop-place-preserved : goal.loop-place-preserved
loop-place-preserved c = record {
  all = shifted_more _ c.loop-place.word c.loop-place.place c.loop-place.next c.index-word-place.result c.loop-place.invariant.all (omega arith)
      c.index-word-place.is;
  length = grind (arith, common_steps);
}

pub returns : goal.returns
returns c = shifted_all c.args.word.now c.loop-place.word c.loop-place.place c.args.bit c.loop-place.next c.loop-place.invariant.all (omega arith)
    c.loop-place.invariant.length
