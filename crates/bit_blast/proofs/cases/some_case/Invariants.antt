use Rattle.std.proofs.Common.{◌≡◌, ◌≤◌, sum_by, take}
use Rattle.cnf_core.specs.Clauses.{var_of}
use Rattle.bit_gates.specs.Folded.{IsLarger}
use Rattle.bit_blast.specs.Cases.{cases_made}
use Rattle.bit_blast.specs.Layered.{parts_of}
use Rattle.bit_blast.specs.Sizes.{case_size}
use Rattle.bit_blast.proofs.cases.some_case.Given as goal

abbrev pub invariant-loop-case : goal.invariant-loop-case
invariant-loop-case l = record {
  formula : l.circuit ≡ (cases_made (parts_of l.layout l.words) l.initial.circuit (take l.case-index l.cases)).formula;
  literal : l.some ≡ (cases_made (parts_of l.layout l.words) l.initial.circuit (take l.case-index l.cases)).literal;
  within : var_of l.some ≤ l.circuit.vars;
  larger : IsLarger (sum_by case_size (take l.case-index l.cases)) l.initial.circuit l.circuit;
}
