use Rattle.std.proofs.Common.{subst, sym}
use Rattle.bit_words.specs.Words.{AreWithin}
use Rattle.bit_arith.proofs.Rows.{within_inverted}
use Rattle.bit_arith.proofs.minus.Goals as goal

pub add_words-requires-clause-second : goal.add_words-requires-clause-second
add_words-requires-clause-second g c =
    subst (AreWithin c.args.circuit.now.vars) (sym c.invert.ensures) (within_inverted c.args.circuit.now.vars c.args.b.now c.requires.second)
