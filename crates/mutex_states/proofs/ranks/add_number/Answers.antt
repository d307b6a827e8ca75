use Rattle.std.proofs.Common.{◌≡◌, ℕ, List, ℤ, neg_ℤ, ap, subst, ◌∙◌, arith, length}
use Rattle.std.specs.List.{flat_map, range_with_len}
use Rattle.cnf_core.specs.Clauses.{Formula}
use Rattle.bit_blast.specs.Reads.{with_clauses}
use Rattle.mutex_states.specs.Ranks.{Ranking, begins_before, rise}
use Rattle.mutex_states.proofs.Loops.{number_made, pieces_next, rise_added, rise_none}
use Rattle.mutex_states.proofs.ranks.add_number.Goals as goal
use Rattle.mutex_states.proofs.ranks.add_number.Goals.{then-region-second+in_ok-add_clause-2, else-region-second}

pub loop-second-preserved : goal.loop-second-preserved
loop-second-preserved c =
    let r = c.args.ranks.now in
    let b = c.args.begins.now in
    let before : ℕ → ℕ → ℤ = begins_before b.layout.now b.events.now in
    let region = c.args.region in
    let least = c.args.least in
    let second = c.loop-second.second in
    let f : ℕ → List (List ℤ) = rise r.count r.start before region least in
    let base : Formula = c.add_clause.new.circuit in
    let now : Formula = c.loop-second.circuit in
    let next : Formula = c.if-region-second.circuit in
    let was = c.loop-second.invariant in
    elim c.if-region-second.branch [
      | then-region-second+in_ok-add_clause-2 w ↦
          let step : next ≡ with_clauses now (f second) =
          rise_added r.count r.start before region least second now next w.opposite-then-region-second.result w.opposite-then-region-second-2.result
          w.literal-high.result w.if-region-second.true (w.opposite-then-region-second.ensures ∙ ap neg_ℤ w.before-before.ensures)
          (w.opposite-then-region-second-2.ensures ∙ ap neg_ℤ c.literal-low.ensures.literal) w.literal-high.ensures.literal
          (w.circuit-is ∙ w.in_ok-add_clause-2.ensures.ok) in
          record {
            circuit = pieces_next f second base now next was.circuit step;
            vars = ap (λ (k : Formula). k.vars) step ∙ was.vars;
            few = omega (arith, ap (λ (k : Formula). length k.clauses) w.circuit-is, w.in_ok-add_clause-2.ensures.few, was.few);
          }
      | else-region-second w ↦
          let step : next ≡ with_clauses now (f second) = rise_none r.count r.start before region least second now next w.if-region-second.false w.circuit-is in
          record {
            circuit = pieces_next f second base now next was.circuit step;
            vars = ap (λ (k : Formula). k.vars) step ∙ was.vars;
            few = omega (arith, ap (λ (k : Formula). length k.clauses) w.circuit-is, was.few);
          }
    ]

pub returns-clause-circuit : goal.returns-clause-circuit
returns-clause-circuit c =
    let r = c.args.ranks.now in
    let b = c.args.begins.now in
    let before : ℕ → ℕ → ℤ = begins_before b.layout.now b.events.now in
    let last : c.loop-second.second ≡ r.count = omega (arith, ap (λ (k : Ranking). k.count) c.ranks.view_is) in
    number_made r.count r.start before c.args.region c.args.least c.args.circuit.now c.add_clause.new.circuit c.loop-second.circuit c.opposite.result
    c.literal-low.result (c.opposite.ensures ∙ ap neg_ℤ c.literal-above.ensures.literal) c.literal-low.ensures.literal c.in_ok-add_clause.ensures.ok
    (subst (λ n. c.loop-second.circuit ≡ with_clauses c.add_clause.new.circuit (flat_map (rise r.count r.start before c.args.region c.args.least) (range_with_len 0 n)))
    last c.loop-second.invariant.circuit)
