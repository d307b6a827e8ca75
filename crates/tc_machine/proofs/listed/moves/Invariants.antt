use Rattle.std.proofs.Common.{◌≡◌, map, take}
use Rattle.tc_machine.specs.Moves.{move_of}
use Rattle.tc_machine.proofs.listed.moves.Given as goal

abbrev pub invariant-loop-choice : goal.invariant-loop-choice
invariant-loop-choice g l = l.found.items ≡ map move_of (take l.choice-index l.choice-items)
