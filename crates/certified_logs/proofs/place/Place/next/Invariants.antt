use Rattle.certified_logs.specs.Places.{IsAt}
use Rattle.certified_logs.proofs.place.Place.next.Given as goal

abbrev pub invariant-loop-turn : goal.invariant-loop-turn
invariant-loop-turn l = IsAt l.code l.header l.self
