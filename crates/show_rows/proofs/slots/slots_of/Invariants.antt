use Rattle.std.proofs.Common.{◌≡◌, take}
use Rattle.show_rows.proofs.slots.slots_of.Given as goal

abbrev pub invariant-loop-slot : goal.invariant-loop-slot
invariant-loop-slot g l = l.slots.items ≡ take l.slot l.thread.local.slots
