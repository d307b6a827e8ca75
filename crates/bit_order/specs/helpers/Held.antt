-- How a layout is stored in memory.
use Rattle.std.specs.Prelude.{◌≡◌, ◌<◌}
use Rattle.cnf_core.specs.declared.cnf.TheConstants.{LIMIT}
use Rattle.bit_order.specs.Layouts.{Layout}
use Rattle.bit_order.specs.Comparators.{comparators, size_of}
use Rattle.bit_order.specs.helpers.Asked.{asked_size}
use Rattle.bit_order.specs.declared.layout.Layout.TheInside.{Inside}

abbrev pub layout_of : Inside → Layout
layout_of l = record { order = l.order; loads = l.loads }

-- the literals of the pairs are stored, and the sizes are below the limit
pub record IsHeld (l : Inside) : Type 0 where
  pub comparators : l.comparators.items ≡ (comparators (layout_of l)).word
  pub small : size_of (layout_of l) < LIMIT
  pub asked : asked_size (layout_of l) < LIMIT
