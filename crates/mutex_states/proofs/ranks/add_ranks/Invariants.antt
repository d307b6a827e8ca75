use Rattle.std.proofs.Common.{◌≡◌, ◌+◌, ◌*◌, ◌≤◌, length}
use Rattle.std.specs.List.{flat_map, range_with_len}
use Rattle.bit_blast.specs.Reads.{with_clauses}
use Rattle.mutex_states.specs.Ranks.{begins_before, region_clauses}
use Rattle.mutex_states.proofs.ranks.add_ranks.Given as goal

abbrev pub invariant-loop-region : goal.invariant-loop-region
invariant-loop-region l = record {
  circuit : l.circuit ≡ with_clauses l.initial.circuit
      (flat_map (region_clauses l.ranks.count l.ranks.start (begins_before l.begins.layout.now l.begins.events.now)) (range_with_len 0 l.region));
  vars : l.circuit.vars ≡ l.initial.circuit.vars;
  few : length l.circuit.clauses ≤ length l.initial.circuit.clauses + l.region * (l.ranks.count * (l.ranks.count + 1));
}
