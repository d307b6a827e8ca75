use Rattle.std.proofs.Common.{◌≡◌, length}
use Rattle.show_deeds.specs.Seen as spec
use Rattle.show_deeds.proofs.seen.Seen.first_by.Given as goal

abbrev pub invariant-loop-rest : goal.invariant-loop-rest
invariant-loop-rest l = spec.first_by l.name l.form l.rest ≡ spec.first_by l.name l.form l.self.waiting

abbrev pub decreases-loop-rest : goal.decreases-loop-rest
decreases-loop-rest l = length l.rest
