use Rattle.clap_solve.proofs.Meaning.{run_is_said, said_is_run}
use Rattle.clap_solve.proofs.laws.clauses_are_runs.Goals as goal

pub returns : goal.returns
returns g c ops model bound code log laws lawful is within = (
  λ s. said_is_run ops model bound code log laws lawful is within s.0 s.1,
  λ r. run_is_said ops model bound code log laws lawful is within r.0 r.1,
)
