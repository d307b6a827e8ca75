use Rattle.std.proofs.Common.{◌≡◌, ◌+◌, ◌*◌, ◌≤◌, drop, length}
use Rattle.bit_blast.specs.Reads.{with_clauses}
use Rattle.mutex_states.specs.Ranks.{exclusions}
use Rattle.mutex_states.proofs.ranks.add_exclusions.Given as goal

abbrev pub invariant-loop-first : goal.invariant-loop-first
invariant-loop-first l = record {
  circuit : with_clauses l.circuit (exclusions (drop l.first l.literals)) ≡ with_clauses l.initial.circuit (exclusions l.literals);
  vars : l.circuit.vars ≡ l.initial.circuit.vars;
  few : length l.circuit.clauses ≤ length l.initial.circuit.clauses + l.first * length l.literals;
}
