use Rattle.std.proofs.Common.{arith, ◌*◌, ◌+◌}
use Rattle.bit_words.proofs.Loops.{compared_more, larger_more}
use Rattle.bit_words.proofs.compare.Goals as goal

pub loop-place-preserved : goal.loop-place-preserved
loop-place-preserved c =
    record {
      all = compared_more _ c.loop-place.circuit c.compare_place.new.circuit c.loop-place.low c.in_ok-low.low c.index-a-place.result c.index-b-place.result
          c.args.a.now c.args.b.now c.loop-place.place c.loop-place.invariant.all (omega arith) (omega arith) c.index-a-place.is c.index-b-place.is
          c.in_ok-low.ensures.formula c.in_ok-low.ensures.literal;
      low = c.in_ok-low.ensures.within;
      larger = larger_more (12 * c.loop-place.place) 12 (12 * (c.loop-place.place + 1)) c.args.circuit.now c.loop-place.circuit c.compare_place.new.circuit
          c.loop-place.invariant.larger c.in_ok-low.ensures.larger (omega arith);
    }
