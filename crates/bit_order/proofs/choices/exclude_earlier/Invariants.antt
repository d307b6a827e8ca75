use Rattle.std.proofs.Common.{◌≡◌, ◌++◌}
use Rattle.std.specs.List.{flat_map, range_with_len}
use Rattle.bit_order.specs.Layouts.{exclusion}
use Rattle.bit_order.proofs.choices.exclude_earlier.Given as goal

abbrev pub invariant-loop-earlier : goal.invariant-loop-earlier
invariant-loop-earlier l = record {
  vars : l.circuit.vars ≡ l.initial.circuit.vars;
  clauses : l.circuit.clauses ≡ l.initial.circuit.clauses
      ++ flat_map (λ earlier. exclusion l.start l.choices earlier l.later) (range_with_len 0 l.earlier);
}
