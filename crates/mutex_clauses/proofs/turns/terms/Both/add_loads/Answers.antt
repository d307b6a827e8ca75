use Rattle.std.proofs.Common.{List, ℤ, ◌∙◌}
use Rattle.mutex_clauses.specs.turns.Terms.{known_clauses}
use Rattle.mutex_clauses.specs.declared.shapes.steps.LoadTerm.{LoadTerm}
use Rattle.mutex_clauses.proofs.turns.Loops.{next_flat, room_flat}
use Rattle.mutex_clauses.proofs.turns.terms.Both.add_loads.Goals as goal

pub add_known-requires-clause-room : goal.add_known-requires-clause-room
add_known-requires-clause-room c =
    let b = c.args.self.now in
    let f : LoadTerm → List (List ℤ) = λ x. known_clauses b.first b.second b.terms.now c.args.words.now x.load x.term in
    room_flat c.args.loads.now c.loop-load.load-index c.load-item.result c.loop-load-test.true c.load-item.is c.args.circuit.now
    c.loop-load.circuit f
    c.loop-load.invariant.formula c.requires.room

pub loop-load-preserved : goal.loop-load-preserved
loop-load-preserved c =
    let b = c.args.self.now in
    let f : LoadTerm → List (List ℤ) = λ x. known_clauses b.first b.second b.terms.now c.args.words.now x.load x.term in
    record {
      formula = next_flat c.args.loads.now c.loop-load.load-index c.load-item.result c.loop-load-test.true c.load-item.is
          c.args.circuit.now c.loop-load.circuit
          f c.add_known.new.circuit c.loop-load.invariant.formula c.in_ok-add_known.ensures.formula;
      vars = c.in_ok-add_known.ensures.vars ∙ c.loop-load.invariant.vars;
    }
