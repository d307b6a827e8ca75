use Rattle.std.proofs.Common.{◌≡◌, ◌≤◌, ◌*◌, take}
use Rattle.cnf_core.specs.Clauses.{var_of}
use Rattle.bit_gates.specs.Folded.{IsLarger}
use Rattle.mutex_clauses.specs.in_order.helpers.Listed.{all_of}
use Rattle.mutex_clauses.proofs.in_order.ordered.and_all.Given as goal

abbrev pub invariant-loop-literal : goal.invariant-loop-literal
invariant-loop-literal l = record {
  formula : l.circuit ≡ (all_of l.initial.circuit l.fn.first (take l.literal-index l.literals)).formula;
  literal : l.all ≡ (all_of l.initial.circuit l.fn.first (take l.literal-index l.literals)).literal;
  within : var_of l.all ≤ l.circuit.vars;
  larger : IsLarger (3 * l.literal-index) l.initial.circuit l.circuit;
}
