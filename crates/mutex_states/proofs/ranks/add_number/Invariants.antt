use Rattle.std.proofs.Common.{◌≡◌, ◌+◌, ◌≤◌, length}
use Rattle.std.specs.List.{flat_map, range_with_len}
use Rattle.bit_blast.specs.Reads.{with_clauses}
use Rattle.mutex_states.specs.Ranks.{begins_before, rise}
use Rattle.mutex_states.proofs.ranks.add_number.Given as goal

abbrev pub invariant-loop-second : goal.invariant-loop-second
invariant-loop-second l = record {
  circuit : l.circuit ≡ with_clauses l.initial.circuit
      (flat_map (rise l.ranks.count l.ranks.start (begins_before l.begins.layout.now l.begins.events.now) l.region l.least) (range_with_len 0 l.second));
  vars : l.circuit.vars ≡ l.initial.circuit.vars;
  few : length l.circuit.clauses ≤ length l.initial.circuit.clauses + l.second;
}
