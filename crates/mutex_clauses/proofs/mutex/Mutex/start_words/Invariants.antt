use Rattle.std.proofs.Common.{◌≡◌, map, take}
use Rattle.mutex_clauses.specs.helpers.Starts.{start_word}
use Rattle.mutex_clauses.proofs.mutex.Mutex.start_words.Given as goal

abbrev pub invariant-loop-spot : goal.invariant-loop-spot
invariant-loop-spot l = l.words.items ≡ map (start_word l.code) (take l.spot-index l.self.spots.items)
