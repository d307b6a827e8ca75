use Rattle.std.proofs.Common.{◌≡◌, length}
use Rattle.tc_names.specs.Names.{meaning_in, name_text}
use Rattle.tc_names.proofs.scope.find.Given as goal

-- the name means the same in the remaining declarations as in all
abbrev pub invariant-loop-rest : goal.invariant-loop-rest
invariant-loop-rest l = (l.text ≡ name_text l.source l.name) × (meaning_in l.source l.declarations l.name ≡ meaning_in l.source l.rest l.name)

abbrev pub decreases-loop-rest : goal.decreases-loop-rest
decreases-loop-rest l = length l.rest
