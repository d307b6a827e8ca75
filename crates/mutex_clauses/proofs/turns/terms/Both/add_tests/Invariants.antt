use Rattle.std.proofs.Common.{◌≡◌, take}
use Rattle.std.specs.List.{flat_map}
use Rattle.bit_blast.specs.Reads.{with_clauses}
use Rattle.mutex_clauses.specs.turns.Terms.{test_clauses}
use Rattle.mutex_clauses.proofs.turns.terms.Both.add_tests.Given as goal

abbrev pub invariant-loop-test : goal.invariant-loop-test
invariant-loop-test l = record {
  formula : l.circuit ≡ with_clauses l.initial.circuit
      (flat_map (test_clauses l.self.first l.self.second l.self.terms.now l.roots) (take l.test-index l.tests));
  vars : l.circuit.vars ≡ l.initial.circuit.vars;
}
