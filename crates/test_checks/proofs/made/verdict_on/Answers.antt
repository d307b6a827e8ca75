use Rattle.std.proofs.Common.{[], ◌++◌}
use Rattle.test_checks.proofs.made.verdict_on.Goals as goal

pub outcome-requires : goal.outcome-requires
outcome-requires c = ([] ++ c.args.bytes.now, c.in_ok-take.ensures.1 [] c.new-incoming.ensures.read)
