use Rattle.sym_steps.proofs.Told.{next_told}
use Rattle.sym_steps.proofs.next_is_told.Goals as goal

pub returns : goal.returns
returns g c = λ setting nodes loads h t x. next_told setting nodes loads h t x
