use Rattle.std.proofs.Common.{◌∙◌, ◌-◌, ◌*◌, ◌^◌, ap₂, min}
use Rattle.mutex_clauses.proofs.Counted.{products}
use Rattle.mutex_clauses.proofs.sizes.product.Goals as goal

pub returns-clause-product : goal.returns-clause-product
returns-clause-product c x y first second = c.saturating_mul.ensures ∙ ap₂ (λ a b. min (a * b) (2 ^ 64 - 1)) first second ∙ products x y
