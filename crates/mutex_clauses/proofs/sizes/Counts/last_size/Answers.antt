use Rattle.std.proofs.Common.{◌+◌, ◌*◌, refl}
use Rattle.mutex_clauses.proofs.sizes.Counts.last_size.Goals as goal

pub returns : goal.returns
returns c =
    let n = c.args.regions in
    let k = c.args.self.cells in
    let a = c.args.self.accesses in
    let gates = c.product-gates.ensures.product (n + 1) 3 (c.sum.ensures.sum n 1 c.sum.ensures.first refl) refl in
    let words = c.product.ensures.product k 64 c.product.ensures.first refl in
    c.product-2.ensures.product a ((n + 1) * 3 + k * 64) c.product-2.ensures.first (c.sum-2.ensures.sum ((n + 1) * 3) (k * 64) gates words)
