use Rattle.std.proofs.Common.{◌≡◌, map, Some}
use Rattle.std.specs.List.{All, list_any}
use Rattle.std.specs.FinMap as fin
use Rattle.tc_record.specs.Ends as ends
use Rattle.tc_record.proofs.end.some_has_many_steps.Given as goal

-- the remaining threads decide, and they exist
abbrev pub invariant-loop-name : goal.invariant-loop-name
invariant-loop-name g l = record {
  left : ends.some_has_many_steps l.state ≡ list_any (ends.has_many_steps l.state) (map (λ e. e.0) l._name-iterator);
  there : All (λ e. fin.get l.state.threads e.0 ≡ Some e.1) l._name-iterator;
}
