use Rattle.std.proofs.Common.{◌∙◌}
use Rattle.mutex_clauses.specs.turns.Turns.{shaped_clauses}
use Rattle.mutex_clauses.specs.turns.helpers.Within.{plain}
use Rattle.mutex_clauses.proofs.turns.Loops.{next_each, room_each}
use Rattle.mutex_clauses.proofs.turns.turn.Turn.add_shapes.Goals as goal

pub add_shaped-requires-clause-room : goal.add_shaped-requires-clause-room
add_shaped-requires-clause-room c =
    let t = c.args.self.now in
    room_each c.args.shapes.now c.loop-number.number c.index-shapes-number.result c.loop-number-test.true c.index-shapes-number.is
    c.args.circuit.now
    c.loop-number.circuit
    (shaped_clauses t.loads.now t.roots.now (plain t) c.args.steps.now) c.loop-number.invariant.formula c.requires.room

pub loop-number-preserved : goal.loop-number-preserved
loop-number-preserved c =
    let t = c.args.self.now in
    record {
      formula = next_each c.args.shapes.now c.loop-number.number c.index-shapes-number.result c.loop-number-test.true
          c.index-shapes-number.is c.args.circuit.now
          c.loop-number.circuit (shaped_clauses t.loads.now t.roots.now (plain t) c.args.steps.now) c.add_shaped.new.circuit
          c.loop-number.invariant.formula c.in_ok-add_shaped.ensures.formula;
      vars = c.in_ok-add_shaped.ensures.vars ∙ c.loop-number.invariant.vars;
    }
