use Rattle.std.proofs.Common.{◌≡◌, ◌∷◌, map, take}
use Rattle.bit_ops.specs.bit_words.Words.{AreWithin}
use Rattle.bit_blast.proofs.reads.add_some.Given as goal

abbrev pub invariant-loop-source : goal.invariant-loop-source
invariant-loop-source l = record {
  clause : l.clause.items ≡ l.fn.start ∷ map (λ s. s.taken) (take l.source-index l.sources);
  within : AreWithin l.circuit.vars l.clause.items;
}
