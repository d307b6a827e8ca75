use Rattle.std.proofs.Common.{◌≡◌, take}
use Rattle.bit_blast.specs.Reads.{with_clauses}
use Rattle.mutex_clauses.specs.turns.Terms.{load_clauses}
use Rattle.mutex_clauses.proofs.turns.terms.Both.add_loads.Given as goal

abbrev pub invariant-loop-load : goal.invariant-loop-load
invariant-loop-load l = record {
  formula : l.circuit ≡ with_clauses l.initial.circuit
      (load_clauses l.self.first l.self.second l.self.terms.now l.words (take l.load-index l.loads));
  vars : l.circuit.vars ≡ l.initial.circuit.vars;
}
