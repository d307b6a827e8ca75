use Rattle.std.proofs.Common.{◌++◌, ◌∙◌, ℕ, [], ◌∷◌, map, ap, sym, append_assoc, arith}
use Rattle.std.specs.List.{range_with_len}
use Rattle.std.proofs.lemmas.List.FromFn.{map-range_with_len_more}
use Rattle.mutex_regions.specs.declared.variables.Spot.{Spot}
use Rattle.mutex_regions.proofs.variables.push_spots.Goals as goal

pub loop-index-preserved : goal.loop-index-preserved
loop-index-preserved c =
    let i = c.loop-index.index in
    let old = c.args.spots.now.items in
    let spot : ℕ → Spot = λ k. record { variable = c.args.variable.now; index = k } in
    c.in_ok-push.ensures.items ∙ ap (λ xs. xs ++ spot i ∷ []) c.loop-index.invariant
    ∙ append_assoc old (map spot (range_with_len 0 i)) (spot i ∷ [])
    ∙ ap (λ xs. old ++ xs) (sym (map-range_with_len_more spot 0 i i (omega arith)))
