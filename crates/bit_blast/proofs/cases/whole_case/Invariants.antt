use Rattle.std.proofs.Common.{◌≡◌, ◌≤◌, sum_by, take}
use Rattle.cnf_core.specs.Clauses.{var_of}
use Rattle.bit_gates.specs.Folded.{IsLarger}
use Rattle.bit_blast.specs.Cases.{case_made}
use Rattle.bit_blast.specs.Layered.{parts_of}
use Rattle.bit_blast.specs.Sizes.{literal_size}
use Rattle.bit_blast.proofs.cases.whole_case.Given as goal

abbrev pub invariant-loop-literal : goal.invariant-loop-literal
invariant-loop-literal l = record {
  formula : l.circuit ≡ (case_made (parts_of l.layout l.words) l.initial.circuit (take l.literal-index l.literals)).formula;
  literal : l.all ≡ (case_made (parts_of l.layout l.words) l.initial.circuit (take l.literal-index l.literals)).literal;
  within : var_of l.all ≤ l.circuit.vars;
  larger : IsLarger (sum_by literal_size (take l.literal-index l.literals)) l.initial.circuit l.circuit;
}
