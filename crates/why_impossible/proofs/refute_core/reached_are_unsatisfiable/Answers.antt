use Rattle.why_impossible.proofs.refute_core.Rests.{reached_are_unsatisfiable}
use Rattle.why_impossible.proofs.refute_core.reached_are_unsatisfiable.Goals as goal

pub returns : goal.returns
returns c = reached_are_unsatisfiable
