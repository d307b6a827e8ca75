use Rattle.std.proofs.Common.{◌∙◌}
use Rattle.mutex_clauses.specs.turns.Turns.{region_clauses}
use Rattle.mutex_clauses.specs.turns.helpers.Within.{plain}
use Rattle.mutex_clauses.proofs.turns.Loops.{next_each, room_each}
use Rattle.mutex_clauses.proofs.turns.turn.Turn.add_regions.Goals as goal

pub add_region-requires-clause-room : goal.add_region-requires-clause-room
add_region-requires-clause-room c =
    let t = c.args.self.now in
    room_each c.args.steps.now c.loop-region.region c.index-steps-region.result c.loop-region-test.true c.index-steps-region.is
    c.args.circuit.now
    c.loop-region.circuit (region_clauses t.loads.now t.roots.now (plain t)) c.loop-region.invariant.formula c.requires.room

pub loop-region-preserved : goal.loop-region-preserved
loop-region-preserved c =
    let t = c.args.self.now in
    record {
      formula = next_each c.args.steps.now c.loop-region.region c.index-steps-region.result c.loop-region-test.true c.index-steps-region.is
          c.args.circuit.now
          c.loop-region.circuit (region_clauses t.loads.now t.roots.now (plain t)) c.add_region.new.circuit c.loop-region.invariant.formula
          c.in_ok-add_region.ensures.formula;
      vars = c.in_ok-add_region.ensures.vars ∙ c.loop-region.invariant.vars;
    }
