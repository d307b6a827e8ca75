use Rattle.std.proofs.Common.{◌≡◌, take, false}
use Rattle.std.specs.List.{list_any}
use Rattle.order_formula.specs.Truth.{Serves, case_at}
use Rattle.order_formula.proofs.truth.any_holds.Given as goal

abbrev pub invariant-loop-case : goal.invariant-loop-case
invariant-loop-case l = record {
  none : list_any (case_at l.terms l.world) (take l.case-index l.cases) ≡ false;
  table : Serves l.terms l.world l.values;
}
