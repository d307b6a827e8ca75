use Rattle.std.proofs.Common.{◌≡◌, ℕ, length, Option, Some, slice_get}
use Rattle.places.specs.helpers.Jumps.{Tells}
use Rattle.places.proofs.loops.loops_of.Given as goal

abbrev pub invariant-loop-first : goal.invariant-loop-first
invariant-loop-first l =
    (length l.lasts.items ≡ l.first) × ((k : ℕ) (last : Option ℕ) → slice_get l.lasts.items k ≡ Some last → Tells l.instrs k last)
