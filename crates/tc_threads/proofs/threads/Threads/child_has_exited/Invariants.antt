use Rattle.std.proofs.Common.{◌≡◌}
use Rattle.std.specs.FinMap as map
use Rattle.tc_base.specs.Names.{child}
use Rattle.tc_threads.proofs.ByName.{at_name}
use Rattle.tc_threads.proofs.threads.Threads.child_has_exited.Given as goal

abbrev pub invariant-loop-name : goal.invariant-loop-name
invariant-loop-name g l = map.get l.self (child l.parent l.number) ≡ at_name l.name-iterator (child l.parent l.number)
