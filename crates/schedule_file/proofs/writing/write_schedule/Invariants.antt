use Rattle.std.proofs.Common.{◌≡◌, ◌++◌, take}
use Rattle.std.specs.Prelude.{string_bytes}
use Rattle.std.specs.List.{flat_map}
use Rattle.schedule_file.specs.Schedules.{header, line}
use Rattle.schedule_file.proofs.writing.write_schedule.Given as goal

abbrev pub invariant-loop-next : goal.invariant-loop-next
invariant-loop-next l = string_bytes l.text ≡ header l.schedule.model ++ flat_map line (take l.next-index l.schedule.moves.items)
