use Rattle.std.proofs.Common.{[], ◌∷◌, ◌++◌, ◌+◌, ℕ, ap, sym, ◌∙◌, arith, map}
use Rattle.std.specs.List.{range_with_len}
use Rattle.std.proofs.lemmas.List.FromFn.{map-range_with_len_more}
use Rattle.dimacs_text.specs.Values.{is_made_true}
use Rattle.dimacs_text.proofs.literals.assignment.Goals as goal

pub loop-place-preserved : goal.loop-place-preserved
loop-place-preserved c =
    let k = c.loop-place.place in
    let f = λ (place : ℕ). is_made_true c.args.literals.now (place + 1) in
    c.in_ok-push.ensures.items ∙ ap (λ vs. vs ++ c.make_true.result ∷ []) c.loop-place.invariant
    ∙ ap (λ v. map f (range_with_len 0 k) ++ v ∷ []) c.make_true.ensures ∙ sym (map-range_with_len_more f 0 k k (omega arith))
