use Rattle.path_log.specs.helpers.Reading.{place}
use Rattle.path_log.proofs.Logs.{there_of, are_a_log}
use Rattle.path_log.proofs.reading.body.Goals as goal

pub new-requires : goal.new-requires
new-requires c =
    let there = there_of c.is_some-has_digest.result c.in_ok-count.count (place c.in_ok-count.rest) (c.in_ok-failing.failing, place c.in_ok-failing.rest)
    c.in_ok-failing.ensures in
    are_a_log c.is_some-has_digest.result c.in_ok-digest.model c.in_ok-count.count c.in_ok-failing.failing (place c.in_ok-failing.rest)
    (place c.in_ok-paths.rest) c.in_ok-paths.paths.items there c.in_ok-paths.ensures
