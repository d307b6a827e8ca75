use Rattle.std.proofs.Common.{◌≡◌, ◌+◌, ◌*◌, ◌≤◌, ◌++◌, length}
use Rattle.std.specs.List.{flat_map, range_with_len}
use Rattle.bit_order.specs.Layouts.{exclusion}
use Rattle.bit_order.proofs.choices.exclude.Given as goal

abbrev pub invariant-loop-later : goal.invariant-loop-later
invariant-loop-later l = record {
  vars : l.circuit.vars ≡ l.initial.circuit.vars;
  clauses : l.circuit.clauses ≡ l.initial.circuit.clauses
      ++ flat_map (λ later. flat_map (λ earlier. exclusion l.start l.choices earlier later) (range_with_len 0 later)) (range_with_len 0 l.later);
  few : length l.circuit.clauses ≤ length l.initial.circuit.clauses + l.later * l.order.events;
}
