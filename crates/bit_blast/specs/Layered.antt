-- The parts of literals over the layout of an order.
use Rattle.std.specs.Prelude.{List, ℤ}
use Rattle.bit_order.specs.Comparators.{before_literal}
use Rattle.bit_order.specs.Layouts.{Layout, ends_literal}
use Rattle.bit_blast.specs.Cases.{Parts}

abbrev pub parts_of : Layout → List (List ℤ) → Parts
parts_of layout words =
    record { before = before_literal layout; ends = ends_literal layout; words = words }
