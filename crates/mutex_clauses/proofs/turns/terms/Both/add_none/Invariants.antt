use Rattle.std.proofs.Common.{◌≡◌, ◌+◌, ◌≤◌, length, take}
use Rattle.bit_blast.specs.Reads.{with_clauses}
use Rattle.mutex_clauses.specs.turns.Terms.{none_clauses}
use Rattle.mutex_clauses.proofs.turns.terms.Both.add_none.Given as goal

abbrev pub invariant-loop-bit : goal.invariant-loop-bit
invariant-loop-bit l = record {
  formula : l.circuit ≡ with_clauses l.initial.circuit
      (none_clauses l.self.first l.self.second l.self.terms.now l.fn.root (take l.bit-index l.word));
  vars : l.circuit.vars ≡ l.initial.circuit.vars;
  few : length l.circuit.clauses ≤ length l.initial.circuit.clauses + l.bit-index;
}
