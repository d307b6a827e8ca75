use Rattle.std.proofs.Common.{ap, sym, ◌∙◌, arith, length}
use Rattle.bit_order.specs.Comparators.{comparator}
use Rattle.bit_order.specs.helpers.Held.{layout_of}
use Rattle.bit_order.proofs.Compared.{comparator_place, comparator_at}
use Rattle.bit_order.proofs.layout.Layout.comparator.Goals as goal

pub index-requires : goal.index-requires
index-requires c =
    let place = comparator_place (layout_of c.self.inside) c.args.first c.args.second c.in_ok-number.number
    (sym c.number_of_pair.ensures ∙ c.in_ok-number.was) in
    omega (arith, place, ap length c.self.invariant.comparators)

pub returns : goal.returns
returns c =
    comparator_at (layout_of c.self.inside) c.args.first c.args.second c.in_ok-number.number (sym c.number_of_pair.ensures ∙ c.in_ok-number.was)
    c.self.inside.comparators.items c.index.result.now c.self.invariant.comparators c.index.ensures
    ∙ ap (λ y. comparator y c.args.first c.args.second) c.self.view_is
