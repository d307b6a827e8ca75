use Rattle.sym_exec.proofs.Ints.{value_int}
use Rattle.sym_exec.proofs.laws.values_are_ints.Goals as goal

pub returns : goal.returns
returns c = λ nodes loads id ints. value_int nodes loads ints id
