use Rattle.sym_steps.proofs.Told.{has_values}
use Rattle.sym_steps.proofs.histories_have_values.Goals as goal

pub returns : goal.returns
returns g c = λ setting nodes loads h t l. has_values setting nodes loads h t l
