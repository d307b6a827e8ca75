use Rattle.std.proofs.Common.{List, sym, subst}
use Rattle.std.specs.List.{All}
use Rattle.order_formula.specs.declared.formula.Conjunct.{Conjunct}
use Rattle.order_formula.specs.Orders.{ConjunctIsIn}
use Rattle.sync_order.proofs.Whole.{is_in_order}
use Rattle.sync_order.proofs.sync.sync_constraints.Goals as goal

pub formula_of-requires : goal.formula_of-requires
formula_of-requires c =
    subst (λ (zs : List Conjunct). All (ConjunctIsIn c.args.order.now) zs) (sym c.in_ok-conjuncts.ensures)
    (is_in_order c.args.paths.now c.requires.whole c.args.order.now c.requires.events c.requires.sleeps)
