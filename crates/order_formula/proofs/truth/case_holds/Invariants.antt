use Rattle.std.proofs.Common.{◌≡◌, take, true}
use Rattle.order_formula.specs.Truth.{Serves, case_at}
use Rattle.order_formula.proofs.truth.case_holds.Given as goal

abbrev pub invariant-loop-literal : goal.invariant-loop-literal
invariant-loop-literal l = record {
  hold : case_at l.terms l.world (take l.literal-index l.literals) ≡ true;
  table : Serves l.terms l.world l.values;
}
