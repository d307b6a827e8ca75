use Rattle.std.proofs.Common.{◌≡◌, map, take, Some}
use Rattle.std.specs.List.{All}
use Rattle.why_impossible.specs.Reasons.{reason_of}
use Rattle.why_impossible.specs.helpers.There.{IsSmall}
use Rattle.why_impossible.proofs.naming.named.Given as goal

abbrev pub invariant-loop-group : goal.invariant-loop-group
invariant-loop-group l = (map (reason_of l.paths) (take l.group-index l.groups) ≡ map Some l.reasons.items) × All IsSmall l.reasons.items
