use Rattle.sym_exec.proofs.Constants.{executed_ints}
use Rattle.sym_exec.proofs.Ints.{value_int}
use Rattle.sym_exec.specs.Executed.{executed}
use Rattle.sym_exec.proofs.laws.lawful_terms_are_ints.Goals as goal

pub returns-clause-constants : goal.returns-clause-constants
returns-clause-constants c = λ code paths nodes lawful are. executed_ints code lawful paths nodes are

pub returns-clause-values : goal.returns-clause-values
returns-clause-values c = λ code paths nodes loads id lawful are taken.
    value_int (executed code paths nodes).nodes loads (record { constants = executed_ints code lawful paths nodes are; taken = taken }) id
