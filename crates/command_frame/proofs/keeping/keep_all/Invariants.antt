use Rattle.std.proofs.Common.{map, take}
use Rattle.command_frame.specs.Keeps.{KeptAll}
use Rattle.command_frame.specs.helpers.Failures.{plain_keep}
use Rattle.command_frame.proofs.keeping.keep_all.Given as goal

abbrev pub invariant-loop-keep : goal.invariant-loop-keep
invariant-loop-keep g l = KeptAll (map plain_keep (take l.keep-index l.keeps)) (g.H.Shelf.tells l.fn.shelf) (g.H.Shelf.tells l.shelf)
