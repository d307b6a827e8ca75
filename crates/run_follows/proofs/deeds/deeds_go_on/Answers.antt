use Rattle.run_follows.proofs.Follows.{nothing_follows, follow_push}
use Rattle.run_follows.proofs.of_deeds.Follow.{first_follow}
use Rattle.run_follows.proofs.deeds.deeds_go_on.Goals as goal

pub returns-clause-start : goal.returns-clause-start
returns-clause-start c = nothing_follows

pub returns-clause-more : goal.returns-clause-more
returns-clause-more c = follow_push

pub returns-clause-first : goal.returns-clause-first
returns-clause-first c = first_follow
