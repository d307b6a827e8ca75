use Rattle.std.proofs.Common.{◌≡◌, ◌+◌, ◌≤◌, length, take}
use Rattle.bit_blast.specs.Reads.{with_clauses}
use Rattle.mutex_clauses.specs.turns.Turns.{each_clauses}
use Rattle.mutex_clauses.proofs.turns.turn.add_each.Given as goal

abbrev pub invariant-loop-literal : goal.invariant-loop-literal
invariant-loop-literal l = record {
  formula : l.circuit ≡ with_clauses l.initial.circuit (each_clauses l.ordered l.shaped (take l.literal-index l.ranked));
  vars : l.circuit.vars ≡ l.initial.circuit.vars;
  few : length l.circuit.clauses ≤ length l.initial.circuit.clauses + l.literal-index;
}
