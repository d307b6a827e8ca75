use Rattle.std.proofs.Common.{◌≡◌, ◌-◌}
use Rattle.path_log.specs.Texts.{is_within}
use Rattle.path_log.specs.Fields.{◌such◌, byte, times}
use Rattle.path_log.specs.helpers.Reading.{place}
use Rattle.path_log.proofs.Loops.{with_front}
use Rattle.path_log.proofs.threads.children.Given as goal

abbrev pub invariant-loop : goal.invariant-loop
invariant-loop l =
    with_front l.name (times (byte such is_within 1 255) (l.depth - l.counter) (place l.rest)) ≡ times (byte such is_within 1 255) l.depth (place l.cursor)
