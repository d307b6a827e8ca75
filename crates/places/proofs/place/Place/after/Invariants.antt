use Rattle.std.proofs.Common.{◌≡◌, map, take}
use Rattle.places.specs.Places.{round_after}
use Rattle.places.proofs.place.Place.after.Given as goal

abbrev pub invariant-loop-first : goal.invariant-loop-first
invariant-loop-first l =
    l.rounds.items ≡ map (λ a. record { first = a; number = round_after l.self l.to a }) (take l.first-index l.first-items)
