-- Deeds whose values are all ints.
use Rattle.run_laws.specs.int_ops.Arith.{IsInt}
use Rattle.run_laws.specs.Ints.{AsksInts}
use Rattle.run_history.specs.History.{Deed, Did, Drained}

abbrev pub DeedHasInts : Deed → Type 0
DeedHasInts (Did n k r took other) = AsksInts r × IsInt took
DeedHasInts (Drained n k c v) = IsInt v
