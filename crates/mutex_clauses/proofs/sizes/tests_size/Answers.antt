use Rattle.std.proofs.Common.{◌≡◌, ◌∙◌, ap, refl, rules, length}
use Rattle.mutex_clauses.specs.helpers.Counted.{counted}
use Rattle.mutex_clauses.proofs.sizes.tests_size.Goals as goal

pub returns : goal.returns
returns c =
    let same : c.len.result ≡ length c.args.step.now.tests = search rules in
    c.product.ensures.product (length c.args.step.now.tests) 32 (c.product.ensures.first ∙ ap counted same) refl
