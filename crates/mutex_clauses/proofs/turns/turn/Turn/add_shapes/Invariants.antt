use Rattle.std.proofs.Common.{◌≡◌, take}
use Rattle.bit_blast.specs.Reads.{with_clauses}
use Rattle.mutex_clauses.specs.turns.Turns.{all_shaped}
use Rattle.mutex_clauses.specs.turns.helpers.Within.{plain}
use Rattle.mutex_clauses.proofs.turns.turn.Turn.add_shapes.Given as goal

abbrev pub invariant-loop-number : goal.invariant-loop-number
invariant-loop-number l = record {
  formula : l.circuit ≡ with_clauses l.initial.circuit
      (all_shaped l.self.loads.now l.self.roots.now (plain l.self) l.steps (take l.number l.shapes));
  vars : l.circuit.vars ≡ l.initial.circuit.vars;
}
