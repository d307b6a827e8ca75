use Rattle.run_follows.proofs.Plays.{follows_is_run}
use Rattle.run_follows.proofs.what_follows_is_a_run.Goals as goal

pub returns : goal.returns
returns g c = λ machine h all. follows_is_run machine h all
