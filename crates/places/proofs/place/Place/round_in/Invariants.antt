use Rattle.std.proofs.Common.{◌≡◌, ◌==◌, drop}
use Rattle.std.specs.List.{find}
use Rattle.places.proofs.place.Place.round_in.Given as goal

abbrev pub invariant-loop-round : goal.invariant-loop-round
invariant-loop-round l = find (λ r. r.first == l.first) l.round-items ≡ find (λ r. r.first == l.first) (drop l.round-index l.round-items)
