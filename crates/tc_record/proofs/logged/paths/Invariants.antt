use Rattle.std.proofs.Common.{◌≡◌, map, take}
use Rattle.tc_record.specs.helpers.Paths.{named_path}
use Rattle.tc_record.proofs.logged.paths.Given as goal

abbrev pub invariant-loop-name : goal.invariant-loop-name
invariant-loop-name g l = l.paths.items ≡ map (named_path l.state) (take l.name-index l.name-items)
