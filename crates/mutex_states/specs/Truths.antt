-- Which conjuncts of a formula hold in a world, by their indexes.
use Rattle.std.specs.Prelude.{ℕ, Bool, false, List, get_or, map}
use Rattle.circuit_sizes.specs.sym_terms.declared.node.Node.{Node}
use Rattle.mutex_regions.specs.order_events.order_formula.declared.formula.Conjunct.{Conjunct}
use Rattle.mutex_regions.specs.order_events.order_formula.Truth.{body_at}
use Rattle.mutex_regions.specs.order_events.order_formula.Worlds.{World}

abbrev pub holds_in : List Node → List Conjunct → World → ℕ → Bool
holds_in nodes formula w k = get_or (map (λ c. body_at nodes w c.body) formula) k false
