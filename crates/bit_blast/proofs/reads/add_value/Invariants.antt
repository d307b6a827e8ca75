use Rattle.std.proofs.Common.{◌≡◌, ◌+◌, ◌*◌, ◌≤◌, length, take}
use Rattle.bit_blast.specs.Reads.{value_clauses, with_clauses}
use Rattle.bit_blast.proofs.reads.add_value.Given as goal

abbrev pub invariant-loop-place : goal.invariant-loop-place
invariant-loop-place l = record {
  formula : l.circuit ≡ with_clauses l.initial.circuit (value_clauses l.fn.holds l.fn.taken (take l.place l.takes) (take l.place l.value));
  vars : l.circuit.vars ≡ l.initial.circuit.vars;
  count : length l.circuit.clauses ≤ length l.initial.circuit.clauses + 2 * l.place;
}
