use Rattle.std.proofs.Common.{◌≡◌, ◌+◌, ◌*◌, ◌≤◌, length}
use Rattle.std.specs.List.{flat_map, range_with_len}
use Rattle.bit_blast.specs.Reads.{with_clauses}
use Rattle.mutex_states.specs.Ranks.{begins_before, number_clauses}
use Rattle.mutex_states.proofs.ranks.add_region.Given as goal

abbrev pub invariant-loop-least : goal.invariant-loop-least
invariant-loop-least l = record {
  circuit : l.circuit ≡ with_clauses l.initial.circuit
      (flat_map (number_clauses l.ranks.count l.ranks.start (begins_before l.begins.layout.now l.begins.events.now) l.region) (range_with_len 0 l.least));
  vars : l.circuit.vars ≡ l.initial.circuit.vars;
  few : length l.circuit.clauses ≤ length l.initial.circuit.clauses + l.least * (l.ranks.count + 1);
}
