use Rattle.std.proofs.Common.{◌≡◌, take}
use Rattle.bit_blast.specs.Reads.{with_clauses}
use Rattle.mutex_clauses.specs.turns.Terms.{shape_clauses}
use Rattle.mutex_clauses.proofs.turns.terms.Both.add_shape.Given as goal

abbrev pub invariant-loop-cell : goal.invariant-loop-cell
invariant-loop-cell l = record {
  formula : l.circuit ≡ with_clauses l.initial.circuit
      (shape_clauses l.self.first l.self.second l.self.terms.now l.after (take l.cell l.shape));
  vars : l.circuit.vars ≡ l.initial.circuit.vars;
}
