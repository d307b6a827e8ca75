use Rattle.std.proofs.Common.{◌≡◌, ◌∙◌, ◌*◌, ap, refl, rules, sym, length, false}
use Rattle.std.specs.Prelude.{if◌then◌else◌}
use Rattle.mutex_regions.specs.Functions.{is_closed}
use Rattle.mutex_clauses.specs.helpers.Counted.{counted}
use Rattle.mutex_clauses.proofs.sizes.cells_size.Goals as goal

pub returns-else-is_closed : goal.returns-else-is_closed
returns-else-is_closed c =
    let k = length c.args.does.now.cells in
    let same : c.len.result ≡ length c.args.does.now.cells = search rules in
    let open_one : is_closed c.args.does.now ≡ false = search rules in
    c.product.ensures.product k 64 (c.product.ensures.first ∙ ap counted same) refl
    ∙ sym (ap (λ b. counted (if b then 0 else k * 64)) open_one)
