use Rattle.std.proofs.Common.{◌≡◌, take}
use Rattle.std.specs.Prelude.{fold}
use Rattle.bit_blast.specs.Contended.{with_candidate, with_event}
use Rattle.bit_blast.proofs.contended.add_read.Given as goal

abbrev pub invariant-loop-candidate : goal.invariant-loop-candidate
invariant-loop-candidate l = l.events.keys ≡ fold with_candidate (with_event l.fn.events.keys l.read.event) (take l.candidate-index l.candidate-items)
