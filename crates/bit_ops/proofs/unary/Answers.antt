use Rattle.std.proofs.Common.{subst, sym}
use Rattle.bit_words.specs.Words.{AreWithin}
use Rattle.bit_arith.proofs.Rows.{within_inverted}
use Rattle.bit_ops.proofs.unary.Goals as goal

pub returns-in-Inv-clause-within : goal.returns-in-Inv-clause-within
returns-in-Inv-clause-within c =
    subst (AreWithin c.args.circuit.now.vars) (sym c.invert.ensures) (within_inverted c.args.circuit.now.vars c.args.a.now c.requires.operand)
