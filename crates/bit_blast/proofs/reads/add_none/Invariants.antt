use Rattle.std.proofs.Common.{◌≡◌, ◌+◌, ◌≤◌, length, take}
use Rattle.bit_blast.specs.Reads.{none_clauses, with_clauses}
use Rattle.bit_blast.proofs.reads.add_none.Given as goal

abbrev pub invariant-loop-source : goal.invariant-loop-source
invariant-loop-source l = record {
  formula : l.circuit ≡ with_clauses l.initial.circuit (none_clauses l.start (take l.source-index l.sources));
  vars : l.circuit.vars ≡ l.initial.circuit.vars;
  count : length l.circuit.clauses ≤ length l.initial.circuit.clauses + l.source-index;
}
