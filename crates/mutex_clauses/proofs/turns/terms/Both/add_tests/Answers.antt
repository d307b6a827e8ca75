use Rattle.std.proofs.Common.{◌∙◌}
use Rattle.mutex_clauses.specs.turns.Terms.{test_clauses}
use Rattle.mutex_clauses.proofs.turns.Loops.{next_flat, room_flat}
use Rattle.mutex_clauses.proofs.turns.terms.Both.add_tests.Goals as goal

pub add_test-requires-clause-room : goal.add_test-requires-clause-room
add_test-requires-clause-room c =
    let b = c.args.self.now in
    room_flat c.args.tests.now c.loop-test.test-index c.test-item.result c.loop-test-test.true c.test-item.is c.args.circuit.now
    c.loop-test.circuit
    (test_clauses b.first b.second b.terms.now c.args.roots.now) c.loop-test.invariant.formula c.requires.room

pub loop-test-preserved : goal.loop-test-preserved
loop-test-preserved c =
    let b = c.args.self.now in
    record {
      formula = next_flat c.args.tests.now c.loop-test.test-index c.test-item.result c.loop-test-test.true c.test-item.is
          c.args.circuit.now c.loop-test.circuit
          (test_clauses b.first b.second b.terms.now c.args.roots.now) c.add_test.new.circuit c.loop-test.invariant.formula
          c.in_ok-add_test.ensures.formula;
      vars = c.in_ok-add_test.ensures.vars ∙ c.loop-test.invariant.vars;
    }
