use Rattle.run_follows.proofs.of_blocked.Blocked.{step_is_blocked}
use Rattle.run_follows.proofs.blocked.steps_are_blocked.Goals as goal

pub returns : goal.returns
returns c = step_is_blocked
