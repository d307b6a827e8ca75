-- The size of a layout's formula, by the pairs and choices of its order.
use Rattle.std.specs.Prelude.{ℕ, ◌+◌, ◌*◌, length}
use Rattle.bit_order.specs.Layouts.{Layout}

-- for each choice a variable and its exclusions, for each pair a comparison and its transitivity
abbrev pub asked_size : Layout → ℕ
asked_size y =
    2 + 8 * y.order.events + 32 * y.loads + length y.order.choices
    + length y.order.choices * y.order.events + length y.order.pairs * (96 + 2 * y.order.events)
