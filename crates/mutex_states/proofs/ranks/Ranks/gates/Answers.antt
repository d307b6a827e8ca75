use Rattle.std.proofs.Common.{◌+◌, ◌*◌, ◌≤◌, [], ◌∷◌, ◌++◌, neg_ℤ, ap, ap₂, sym, ◌∙◌, subst, arith, length}
use Rattle.std.specs.Prelude.{fold}
use Rattle.std.specs.List.{range_with_len}
use Rattle.std.proofs.lemmas.List.{length_push}
use Rattle.std.proofs.lemmas.List.Elements.{All-push}
use Rattle.cnf_core.specs.Clauses.{var_of}
use Rattle.bit_gates.specs.Folded.{Made}
use Rattle.circuit_sizes.specs.bit_ops.bit_words.Words.{AreWithin, Walked}
use Rattle.circuit_sizes.proofs.bit_ops.bit_words.Loops.{larger_more, within_more}
use Rattle.cnf_core.specs.Clauses.{Formula}
use Rattle.mutex_states.specs.Ranks.{with_gate}
use Rattle.mutex_states.proofs.Loops.{fold_more, gate_made}
use Rattle.mutex_states.proofs.ranks.Ranks.gates.Goals as goal

pub loop-region-preserved : goal.loop-region-preserved
loop-region-preserved c =
    let count = c.args.self.now.count in
    let start = c.args.self.now.start in
    let rank = c.args.rank in
    let region = c.loop-region.region in
    let first : Walked Formula = record { state = c.args.circuit.now; word = [] } in
    let m : Walked Formula = fold (with_gate count start rank) first (range_with_len 0 region) in
    let was = c.loop-region.invariant in
    let more = fold_more (with_gate count start rank) first region in
    let is = gate_made count start rank region c.loop-region.circuit m.state c.literal-low.result c.opposite.result was.circuit c.literal-low.ensures.literal
    (c.opposite.ensures ∙ ap neg_ℤ c.literal-above.ensures.literal) in
    let items = c.in_ok-push.ensures.items in
    let n = c.and.new.self.vars in
    record {
      circuit = c.in_ok-and.ensures.formula ∙ ap (λ (k : Made). k.formula) is ∙ sym (ap (λ (w : Walked Formula). w.state) more);
      literals = items ∙ ap₂ (λ ls l. ls ++ l ∷ []) was.literals (c.in_ok-and.ensures.literal ∙ ap (λ (k : Made). k.literal) is)
          ∙ sym (ap (λ (w : Walked Formula). w.word) more);
      count = ap length items ∙ length_push c.loop-region.gates.items c.in_ok-and.field-0 ∙ ap (λ k. k + 1) was.count;
      within = subst (AreWithin n) (sym items)
          (All-push (λ l. var_of l ≤ n) c.loop-region.gates.items c.in_ok-and.field-0
          (within_more c.loop-region.circuit.vars n c.loop-region.gates.items c.in_ok-and.ensures.larger.0 was.within) c.in_ok-and.ensures.within);
      larger = larger_more (3 * region) 3 (3 * (region + 1)) c.args.circuit.now c.loop-region.circuit c.and.new.self was.larger c.in_ok-and.ensures.larger (omega arith);
    }
