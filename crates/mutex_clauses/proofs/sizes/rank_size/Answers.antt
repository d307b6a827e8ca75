use Rattle.std.proofs.Common.{◌+◌, ◌*◌, refl}
use Rattle.mutex_clauses.proofs.sizes.rank_size.Goals as goal

pub returns : goal.returns
returns c =
    let n = c.args.regions in
    let same = c.product.ensures.second in
    c.sum-2.ensures.sum (3 * n) (n * n + 1) (c.product.ensures.product 3 n refl same)
    (c.sum.ensures.sum (n * n) 1 (c.product-2.ensures.product n n same same) refl)
