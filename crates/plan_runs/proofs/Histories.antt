-- A history that follows the order of a lawful world, as one along the paths.
use Rattle.std.specs.Prelude.{ℕ, List}
use Rattle.sym_steps.specs.run_history.History.{Deed}
use Rattle.sym_steps.specs.path_laws.Setting.{Setting}
use Rattle.sym_steps.specs.path_laws.history.Along.{HistoryAlong}
use Rattle.condition_order.specs.sym_terms.declared.node.Node.{Node}
use Rattle.condition_order.specs.order_formula.Worlds.{World}
use Rattle.sym_steps.specs.Valued.{ValuedHistory}
use Rattle.world_plan.specs.Going.{IsLawfulWorld, HasGone}

module _ {B : Type 0} {setting : Setting B} {nodes : List Node} {w : World} (l : IsLawfulWorld setting nodes w) {p : ℕ} {h : List Deed}
    (gone : HasGone setting nodes w p h) where
  abbrev pub history_of : HistoryAlong setting
  history_of = record { deeds = h; fits = l.fits; along = gone.along }

  -- and with the values of the world's loads
  abbrev pub valued_of : ValuedHistory setting nodes w.loads
  valued_of = record { history = history_of; terms = l.terms; agrees = gone.agrees }
