use Rattle.std.proofs.Common.{◌≡◌, take}
use Rattle.bit_blast.specs.Contended.{with_case}
use Rattle.bit_blast.proofs.contended.add_case.Given as goal

abbrev pub invariant-loop-literal : goal.invariant-loop-literal
invariant-loop-literal l = l.events.keys ≡ with_case l.fn.events.keys (take l.literal-index l.literals)
