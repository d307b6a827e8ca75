use Rattle.bit_ops.specs.bit_words.Words.{AreWithin}
use Rattle.test_circuits.proofs.fresh.Given as goal

abbrev pub invariant-loop-place : goal.invariant-loop-place
invariant-loop-place l = record { within : AreWithin l.vars l.word }
