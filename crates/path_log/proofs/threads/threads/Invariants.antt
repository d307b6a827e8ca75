use Rattle.std.proofs.Common.{◌≡◌, ◌-◌, None}
use Rattle.path_log.specs.Fields as fields
use Rattle.path_log.specs.helpers.Reading.{place, last_name}
use Rattle.path_log.proofs.Loops.{with_front}
use Rattle.path_log.proofs.threads.threads.Given as goal

abbrev pub invariant-loop : goal.invariant-loop
invariant-loop l =
    with_front l.threads.items (fields.threads l.as_runs (l.count - l.counter) (last_name l.threads.items) (place l.rest))
    ≡ fields.threads l.as_runs l.count None (place l.cursor)
