use Rattle.std.proofs.Common.{◌≡◌, take}
use Rattle.bit_blast.specs.Contended.{contended}
use Rattle.bit_blast.proofs.contended.contended.Given as goal

abbrev pub invariant-loop-conjunct : goal.invariant-loop-conjunct
invariant-loop-conjunct l = l.events.keys ≡ contended (take l.conjunct-index l.conjunct-items)
