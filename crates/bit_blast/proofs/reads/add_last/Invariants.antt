use Rattle.std.proofs.Common.{◌≡◌, ◌+◌, ◌≤◌, length, take}
use Rattle.bit_order.specs.Comparators.{before_literal}
use Rattle.bit_blast.specs.Reads.{last_clauses, with_clauses}
use Rattle.bit_blast.proofs.reads.add_last.Given as goal

abbrev pub invariant-loop-other : goal.invariant-loop-other
invariant-loop-other l = record {
  formula : l.circuit ≡ with_clauses l.fn.circuit (last_clauses (before_literal l.layout) (take l.other-index l.sources) l.source);
  vars : l.circuit.vars ≡ l.fn.circuit.vars;
  count : length l.circuit.clauses ≤ length l.fn.circuit.clauses + l.other-index + 1;
}
