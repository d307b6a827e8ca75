use Rattle.std.proofs.Common.{◌≡◌, map, take}
use Rattle.places.proofs.place.Place.first.Given as goal

abbrev pub invariant-loop-first : goal.invariant-loop-first
invariant-loop-first l = l.rounds.items ≡ map (λ a. record { first = a; number = 0 }) (take l.first-index l.first-items)
