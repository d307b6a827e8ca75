-- How the clauses of a formula are stored in memory.
use Rattle.std.specs.Prelude.{◌<◌, ◌≤◌, length}
use Rattle.bit_order.specs.Layouts.{base}
use Rattle.bit_blast.specs.Blasted.{Blasted}
use Rattle.bit_blast.specs.declared.blasted.Blasted.TheInside.{Inside}

abbrev pub blasted_of : Inside → Blasted
blasted_of b = record { layout = b.layout; clauses = b.clauses; conjuncts = b.conjuncts }

-- positions fit in 8 bits, the layout's variables exist if any do, and each conjunct has a clause
pub record IsHeld (b : Inside) : Type 0 where
  pub events : b.layout.order.events ≤ 256
  pub variables : 0 < b.clauses.vars → (base b.layout).vars ≤ b.clauses.vars
  pub roots : b.conjuncts ≤ length b.clauses.clauses
