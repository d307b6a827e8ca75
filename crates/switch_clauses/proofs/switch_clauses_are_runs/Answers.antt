use Rattle.switch_clauses.proofs.Meaning.{run_is_said, said_is_run}
use Rattle.switch_clauses.proofs.switch_clauses_are_runs.Goals as goal

pub returns : goal.returns
returns g c = λ ops model bound code log most laws lawful is within. (
  λ some. said_is_run ops model bound code log most laws lawful is within some.0 some.1,
  λ some. run_is_said ops model bound code log most laws lawful is within some.0 some.1 some.2,
)
