use Rattle.std.proofs.Common.{◌≡◌, length}
use Rattle.tc_names.specs.Names.{name_text}
use Rattle.tc_lower.specs.Things.{thing_in}
use Rattle.tc_lower.proofs.things.find.Given as goal

-- the name means the same among the remaining names as among all
abbrev pub invariant-loop-rest : goal.invariant-loop-rest
invariant-loop-rest l = (l.text ≡ name_text l.source l.name) × (thing_in l.source l.names l.name ≡ thing_in l.source l.rest l.name)

abbrev pub decreases-loop-rest : goal.decreases-loop-rest
decreases-loop-rest l = length l.rest
