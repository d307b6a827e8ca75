use Rattle.std.proofs.Common.{ℕ, List, ℤ, ◌∙◌, arith}
use Rattle.mutex_states.specs.Ranks.{begins_before, number_clauses}
use Rattle.mutex_states.proofs.Loops.{pieces_next}
use Rattle.mutex_states.proofs.ranks.add_region.Goals as goal

pub loop-least-preserved : goal.loop-least-preserved
loop-least-preserved c =
    let r = c.args.ranks.now in
    let b = c.args.begins.now in
    let f : ℕ → List (List ℤ) = number_clauses r.count r.start (begins_before b.layout.now b.events.now) c.args.region in
    let was = c.loop-least.invariant in
    let next = c.in_ok-add_number.ensures in
    record {
      circuit = pieces_next f c.loop-least.least c.args.circuit.now c.loop-least.circuit c.add_number.new.circuit was.circuit next.circuit;
      vars = next.vars ∙ was.vars;
      few = omega (arith, next.few, was.few);
    }
