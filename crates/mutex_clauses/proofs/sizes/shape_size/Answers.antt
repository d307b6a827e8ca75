use Rattle.std.proofs.Common.{◌≡◌, ◌∙◌, ◌+◌, ◌*◌, ap, refl, rules, length}
use Rattle.mutex_clauses.specs.helpers.Counted.{counted}
use Rattle.mutex_clauses.proofs.sizes.shape_size.Goals as goal

pub returns : goal.returns
returns c =
    let n = c.args.regions in
    let k = length c.args.shape.now in
    let same : c.len.result ≡ length c.args.shape.now = search rules in
    c.sum-2.ensures.sum (k * 64) (n + 2) (c.product.ensures.product k 64 (c.product.ensures.first ∙ ap counted same) refl)
    (c.sum.ensures.sum n 2 c.sum.ensures.first refl)
