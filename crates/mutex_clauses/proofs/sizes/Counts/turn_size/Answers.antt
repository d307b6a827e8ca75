use Rattle.std.proofs.Common.{◌≡◌, ◌∙◌, ◌+◌, ◌*◌, ap, refl, rules, sum_by, length}
use Rattle.bit_terms.specs.Sizes.{terms_size}
use Rattle.mutex_states.specs.Sizes.{region_size, shape_size}
use Rattle.mutex_states.specs.Steps.{pool, shapes}
use Rattle.mutex_clauses.specs.shapes.Termed.{TermedSteps}
use Rattle.mutex_clauses.specs.helpers.Counted.{counted}
use Rattle.mutex_clauses.proofs.sizes.Counts.turn_size.Goals as goal

pub returns : goal.returns
returns c =
    let k = c.args.self.cells in
    let steps = c.args.steps.now in
    let n = length steps in
    let of_shapes = sum_by (shape_size n) (shapes k steps) in
    let of_regions = sum_by region_size steps in
    let own : c.as_slice.result.now ≡ c.args.termed.now.shapes = search rules in
    let nodes : c.termed.inside.terms ≡ c.args.termed.now.terms = search rules in
    let listed : c.shapes_size-shapes.result ≡ counted of_shapes =
    c.shapes_size-shapes.ensures ∙ ap (λ ss. counted (sum_by (shape_size n) ss)) (own ∙ ap (λ (t : TermedSteps). t.shapes) c.requires) in
    let terms : c.terms_size.result ≡ counted (terms_size (pool k steps)) =
    c.terms_size.ensures ∙ ap (λ ns. counted (terms_size ns)) (nodes ∙ ap (λ (t : TermedSteps). t.terms) c.requires) in
    let clauses = c.sum-clauses.ensures.sum of_shapes of_regions listed c.regions_size.ensures in
    let variables = c.sum-variables.ensures.sum (32 * k) 1 (c.product.ensures.product 32 k refl c.product.ensures.second) refl in
    c.sum-2.ensures.sum (terms_size (pool k steps)) (32 * k + 1 + (of_shapes + of_regions)) terms
    (c.sum.ensures.sum (32 * k + 1) (of_shapes + of_regions) variables clauses)
