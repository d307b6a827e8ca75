-- The conjuncts of a group.
use Rattle.std.specs.Prelude.{◌≡◌, List, true}
use Rattle.std.specs.List.{Contains}
use Rattle.sym_terms.specs.declared.node.Node.{Node}
use Rattle.order_formula.specs.declared.formula.Conjunct.{Conjunct}
use Rattle.order_formula.specs.declared.group.Group.{Group}
use Rattle.order_formula.specs.Worlds.{World}
use Rattle.order_formula.specs.Truth.{body_at}

module _ (nodes : List Node) (w : World) (formula : List Conjunct) (g : Group) where
  -- all conjuncts of the group g in a formula are true in a world
  abbrev pub HoldsIn : Type 0
  HoldsIn = (c : Conjunct) → Contains formula c → c.group ≡ g → body_at nodes w c.body ≡ true

  -- all conjuncts of the group are true in a world exactly when the world meets a rule
  pub record IsExactly (Rule : Type 0) : Type 0 where
    pub to : HoldsIn → Rule
    pub back : Rule → HoldsIn
