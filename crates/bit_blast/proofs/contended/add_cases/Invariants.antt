use Rattle.std.proofs.Common.{◌≡◌, take}
use Rattle.std.specs.Prelude.{fold}
use Rattle.bit_blast.specs.Contended.{with_case}
use Rattle.bit_blast.proofs.contended.add_cases.Given as goal

abbrev pub invariant-loop-case : goal.invariant-loop-case
invariant-loop-case l = l.events.keys ≡ fold with_case l.fn.events.keys (take l.case-index l.cases)
