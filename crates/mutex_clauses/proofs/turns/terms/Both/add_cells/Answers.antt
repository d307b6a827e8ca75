use Rattle.std.proofs.Common.{◌∙◌}
use Rattle.mutex_clauses.specs.turns.Terms.{known_clauses}
use Rattle.mutex_clauses.proofs.turns.Loops.{next_each, room_each}
use Rattle.mutex_clauses.proofs.turns.terms.Both.add_cells.Goals as goal

pub add_known-requires-clause-room : goal.add_known-requires-clause-room
add_known-requires-clause-room c =
    let b = c.args.self.now in
    room_each c.args.cells.now c.loop-cell.cell c.index-cells-cell.result c.loop-cell-test.true c.index-cells-cell.is c.args.circuit.now
    c.loop-cell.circuit
    (known_clauses b.first b.second b.terms.now c.args.after.now) c.loop-cell.invariant.formula c.requires.room

pub loop-cell-preserved : goal.loop-cell-preserved
loop-cell-preserved c =
    let b = c.args.self.now in
    record {
      formula = next_each c.args.cells.now c.loop-cell.cell c.index-cells-cell.result c.loop-cell-test.true c.index-cells-cell.is
          c.args.circuit.now
          c.loop-cell.circuit (known_clauses b.first b.second b.terms.now c.args.after.now) c.add_known.new.circuit
          c.loop-cell.invariant.formula
          c.in_ok-add_known.ensures.formula;
      vars = c.in_ok-add_known.ensures.vars ∙ c.loop-cell.invariant.vars;
    }
