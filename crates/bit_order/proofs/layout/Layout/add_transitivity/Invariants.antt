use Rattle.std.proofs.Common.{◌≡◌, ◌+◌, ◌-◌, ◌*◌, ◌≤◌, ◌++◌, length, take}
use Rattle.std.specs.List.{flat_map, range_with_len}
use Rattle.bit_order.specs.Comparators.{transitive}
use Rattle.bit_order.proofs.layout.Layout.add_transitivity.Given as goal

abbrev pub invariant-loop-pair : goal.invariant-loop-pair
invariant-loop-pair l = record {
  vars : l.circuit.vars ≡ l.initial.circuit.vars;
  clauses : l.circuit.clauses ≡ l.initial.circuit.clauses
      ++ flat_map (λ p. flat_map (transitive l.self p) (range_with_len (p.greater + 1) (l.self.order.events - (p.greater + 1))))
      (take l.pair-index l.self.order.pairs);
  few : length l.circuit.clauses ≤ length l.initial.circuit.clauses + l.pair-index * (2 * l.self.order.events);
}
