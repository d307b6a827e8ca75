use Rattle.std.proofs.Common.{sym}
use Rattle.least_runs.proofs.Used.{unused_is}
use Rattle.least_runs.proofs.Unseen.{failed_still}
use Rattle.least_runs.proofs.Follows.{left_follows, paths_stay}
use Rattle.least_runs.proofs.unused_steps_come_out.Goals as goal

pub returns-clause-run : goal.returns-clause-run
returns-clause-run g c = λ machine older newer n k r took other all last unused.
    left_follows machine older newer n k r took other all last (unused_is n r other newer unused)

pub returns-clause-failure : goal.returns-clause-failure
returns-clause-failure g c = λ older newer n k r took other unused. sym (failed_still n k took other newer older newer r (unused_is n r other newer unused))

pub returns-clause-paths : goal.returns-clause-paths
returns-clause-paths g c = λ machine older newer n q k r took other all last unused own fresh.
    paths_stay machine older newer n k r took other all last (unused_is n r other newer unused) q own fresh
