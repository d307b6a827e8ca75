use Rattle.std.proofs.Common.{◌≡◌, ◌<◌, ap, sym, ◌∙◌, Some, length, get_or, rules}
use Rattle.std.specs.Option.{option_map_or}
use Rattle.order_formula.specs.Truth.{is_read, later_of}
use Rattle.order_formula.proofs.Sources.{passes, stays}
use Rattle.order_formula.proofs.truth.source_of.Goals as goal
use Rattle.order_formula.proofs.truth.source_of.Goals.{then-is_read, else-is_read}

pub loop-candidate-preserved : goal.loop-candidate-preserved
loop-candidate-preserved c =
    let later = later_of c.args.world.now in
    let test = is_read c.args.terms.now c.args.world.now c.args.read.now in
    let all = c.candidates-candidate-items.result.now in
    let k = c.loop-candidate.candidate-index in
    let x = c.candidate-item.result in
    let within : k < length all = search rules in
    let is : get_or all k x ≡ x = search rules in
    elim c.if-is_read.branch [
      | then-is_read w ↦ record {
        source = w.source-is ∙ ap Some (w.later_of.ensures ∙ ap (λ s. option_map_or (λ b. later b x) s x) c.loop-candidate.invariant.source)
            ∙ sym (passes later test all k x within is (sym c.is_read.ensures.holds ∙ w.if-is_read.true));
        terms = search rules;
        table = search rules;
      }
      | else-is_read w ↦ record {
        source = w.source-is ∙ c.loop-candidate.invariant.source
            ∙ sym (stays later test all k x within is (sym c.is_read.ensures.holds ∙ w.if-is_read.false));
        terms = search rules;
        table = search rules;
      }
    ]
