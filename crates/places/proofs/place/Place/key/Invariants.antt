use Rattle.std.proofs.Common.{◌≡◌, take, ◌∷◌, []}
use Rattle.std.specs.List.{flat_map}
use Rattle.places.proofs.place.Place.key.Given as goal

abbrev pub invariant-loop-round : goal.invariant-loop-round
invariant-loop-round l = l.key.items ≡ flat_map (λ r. r.first ∷ r.number ∷ []) (take l.round-index l.round-items)
