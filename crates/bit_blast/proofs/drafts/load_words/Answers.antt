use Rattle.std.proofs.Common.{[], ◌∷◌, ◌++◌, ap, sym, ◌∙◌, arith, map}
use Rattle.std.specs.List.{range_with_len}
use Rattle.std.proofs.lemmas.List.FromFn.{map-range_with_len_more}
use Rattle.bit_order.specs.Layouts.{load_word}
use Rattle.bit_blast.proofs.drafts.load_words.Goals as goal

pub loop-load-preserved : goal.loop-load-preserved
loop-load-preserved c =
    let k = c.loop-load.load in
    let f = load_word c.args.layout.now in
    c.in_ok-push.ensures.items ∙ ap (λ ws. ws ++ c.load.result ∷ []) c.loop-load.invariant
    ∙ ap (λ w. map f (range_with_len 0 k) ++ w ∷ []) c.load.ensures ∙ sym (map-range_with_len_more f 0 k k (omega arith))
