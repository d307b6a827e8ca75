use Rattle.std.proofs.Common.{◌≡◌, Some}
use Rattle.std.specs.List.{All}
use Rattle.std.specs.FinMap as fin
use Rattle.show_rows.proofs.told.finish.Given as goal

abbrev pub invariant-loop-name : goal.invariant-loop-name
invariant-loop-name g l = All (λ e. fin.get l.state.threads e.0 ≡ Some e.1) l.name-iterator
