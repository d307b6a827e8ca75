use Rattle.std.proofs.Common.{◌+◌, ◌*◌, refl}
use Rattle.mutex_clauses.proofs.sizes.Counts.order_size.Goals as goal

pub returns : goal.returns
returns c =
    let n = c.args.regions in
    let k = c.args.self.conjuncts in
    let u = c.args.self.used in
    let used = c.sum.ensures.second in
    let own = c.product.ensures.first in
    let pairs = c.product-pairs.ensures.product u (3 + u) used (c.sum.ensures.sum 3 u refl used) in
    let squares = c.product.ensures.product n n own own in
    let two = c.sum-2.ensures.sum (n * n) (u * (3 + u)) squares pairs in
    let three = c.sum-3.ensures.sum n (n * n + u * (3 + u)) own two in
    let all = c.sum-literals.ensures.sum k (n + (n * n + u * (3 + u))) c.sum-literals.ensures.first three in
    c.sum-4.ensures.sum ((k + (n + (n * n + u * (3 + u)))) * 3) (u * 387)
    (c.product-2.ensures.product (k + (n + (n * n + u * (3 + u)))) 3 all refl)
    (c.product-3.ensures.product u 387 used refl)
