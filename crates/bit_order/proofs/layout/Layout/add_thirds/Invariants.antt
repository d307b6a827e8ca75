use Rattle.std.proofs.Common.{◌≡◌, ◌+◌, ◌-◌, ◌*◌, ◌≤◌, ◌++◌, length}
use Rattle.std.specs.List.{flat_map, range_with_len}
use Rattle.bit_order.specs.Comparators.{transitive}
use Rattle.bit_order.proofs.layout.Layout.add_thirds.Given as goal

abbrev pub invariant-loop-third : goal.invariant-loop-third
invariant-loop-third l = record {
  vars : l.circuit.vars ≡ l.initial.circuit.vars;
  clauses : l.circuit.clauses ≡ l.initial.circuit.clauses
      ++ flat_map (transitive l.self l.pair) (range_with_len (l.pair.greater + 1) (l.third - (l.pair.greater + 1)));
  few : length l.circuit.clauses ≤ length l.initial.circuit.clauses + 2 * (l.third - (l.pair.greater + 1));
}
