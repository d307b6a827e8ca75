use Rattle.std.proofs.Common.{arith, ◌-◌, ◌∙◌, neg_ℤ, ap, sym, set}
use Rattle.bit_signed.proofs.Moves.{biased_is}
use Rattle.bit_signed.proofs.bias.Goals as goal

pub returns : goal.returns
returns g c =
    ap (set c.args.word.now (g.row.W - 1)) (c.opposite.ensures ∙ ap neg_ℤ (sym c.index-word.is))
    ∙ biased_is c.args.word.now g.row.W c.index-word.result c.requires (omega (arith, c.told-word)) c.index-word.is
