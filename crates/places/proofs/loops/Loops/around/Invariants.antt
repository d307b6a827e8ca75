use Rattle.std.proofs.Common.{◌≡◌}
use Rattle.std.specs.List.{filter, range_with_len}
use Rattle.places.specs.helpers.Jumps.{is_around_by}
use Rattle.places.proofs.loops.Loops.around.Given as goal

abbrev pub invariant-loop-first : goal.invariant-loop-first
invariant-loop-first l = l.firsts.items ≡ filter (is_around_by l.self l.at) (range_with_len 0 l.first)
