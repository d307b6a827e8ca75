use Rattle.std.proofs.Common.{◌≡◌, ◌+◌, ◌*◌, ◌++◌, ◌≤◌, length, take}
use Rattle.std.specs.List.{flat_map}
use Rattle.bit_order.specs.Comparators.{before_literal}
use Rattle.bit_blast.specs.Reads.{last_clauses, value_clauses, with_clauses}
use Rattle.bit_blast.proofs.reads.add_sources.Given as goal

abbrev pub invariant-loop-source : goal.invariant-loop-source
invariant-loop-source l = record {
  formula : l.circuit ≡ with_clauses l.initial.circuit (flat_map
      (λ s. last_clauses (before_literal l.layout) l.sources s ++ value_clauses l.holds s.taken l.takes s.value) (take l.source-index l.sources));
  vars : l.circuit.vars ≡ l.initial.circuit.vars;
  count : length l.circuit.clauses ≤ length l.initial.circuit.clauses + l.source-index * (length l.sources + 65);
}
