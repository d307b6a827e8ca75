use Rattle.std.proofs.Common.{◌≡◌, ◌≤◌, ◌*◌, take}
use Rattle.std.specs.List.{All}
use Rattle.cnf_core.specs.Clauses.{var_of}
use Rattle.bit_gates.specs.Folded.{IsLarger, kept}
use Rattle.bit_words.specs.Words.{AreWithin}
use Rattle.mutex_clauses.specs.in_order.helpers.Listed.{with_ranges}
use Rattle.mutex_clauses.proofs.in_order.ordered.and_ranges.Given as goal

abbrev pub invariant-loop-access : goal.invariant-loop-access
invariant-loop-access l = record {
  formula : l.circuit ≡ (with_ranges l.words (kept l.initial.circuit l.fn.first) (take l.access-index l.accesses)).formula;
  literal : l.all ≡ (with_ranges l.words (kept l.initial.circuit l.fn.first) (take l.access-index l.accesses)).literal;
  within : var_of l.all ≤ l.circuit.vars;
  words : All (AreWithin l.circuit.vars) l.words;
  larger : IsLarger (387 * l.access-index) l.initial.circuit l.circuit;
}
