use Rattle.std.proofs.Common.{arith, rules, ◌-◌, ◌<◌, ◌∙◌, ap, length, set}
use Rattle.bit_shift.proofs.Moves.{rotated}
use Rattle.bit_shift.proofs.shift_out.Goals as goal

pub returns-then-not-is_empty : goal.returns-then-not-is_empty
returns-then-not-is_empty c =
    let some : 0 < length c.args.word.now = grind (arith, c.is_empty.ensures, c.if-not-is_empty.true) in
    ap (λ k. set k (length k - 1) c.args.bit) c.rotate_left.ensures.after ∙ rotated c.args.word.now c.args.bit some
