use Rattle.std.proofs.Common.{ℕ, ◌+◌, List, ℤ, ◌∙◌, arith, length}
use Rattle.mutex_states.specs.Ranks.{begins_before, region_clauses}
use Rattle.mutex_states.proofs.Loops.{pieces_next}
use Rattle.mutex_states.proofs.ranks.add_ranks.Goals as goal

pub loop-region-preserved : goal.loop-region-preserved
loop-region-preserved c =
    let b = c.args.begins.now in
    let f : ℕ → List (List ℤ) = region_clauses (length b.events.now) (c.vars.result + 1) (begins_before b.layout.now b.events.now) in
    let was = c.loop-region.invariant in
    let next = c.in_ok-add_region.ensures in
    record {
      circuit = pieces_next f c.loop-region.region c.add_variables.new.circuit c.loop-region.circuit c.add_region.new.circuit was.circuit next.circuit;
      vars = next.vars ∙ was.vars;
      few = omega (arith, next.few, was.few);
    }
