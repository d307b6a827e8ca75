use Rattle.std.proofs.Common.{◌≡◌, ◌-◌}
use Rattle.std.specs.Fn.{iterate}
use Rattle.bit_shift.specs.Shifts.{moved}
use Rattle.bit_shift.proofs.move_places.Given as goal

abbrev pub invariant-loop : goal.invariant-loop
invariant-loop l = record { all : iterate (moved l.to l.bit) l.by l.initial.word ≡ iterate (moved l.to l.bit) (l.by - l.counter) l.word }
