use Rattle.std.proofs.Common.{arith, ◌-◌, ◌+◌, ◌∙◌, ap, sym}
use Rattle.std.specs.Fn.{iterate}
use Rattle.bit_shift.specs.Shifts.{moved}
use Rattle.bit_shift.proofs.Moves.{iterate_more, iterate_all}
use Rattle.bit_shift.proofs.move_places.Goals as goal

pub loop-preserved : goal.loop-preserved
loop-preserved c = record {
  all = iterate_more (moved c.args.to c.args.bit) _ c.loop.word c.args.by c.loop.counter c.loop.invariant.all (omega arith)
      ∙ ap (iterate (moved c.args.to c.args.bit) (c.args.by - (c.loop.counter + 1))) (sym c.move_place.ensures);
}

pub returns : goal.returns
returns c = sym (iterate_all (moved c.args.to c.args.bit) _ c.loop.word c.args.by c.loop.counter c.loop.invariant.all (omega arith))
