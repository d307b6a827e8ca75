use Rattle.sym_events.proofs.Terms.{have_terms, have_tests}
use Rattle.sym_events.proofs.executed_terms.Goals as goal

pub returns-clause-accesses : goal.returns-clause-accesses
returns-clause-accesses c code paths nodes lawful = have_terms code lawful paths nodes

pub returns-clause-tests : goal.returns-clause-tests
returns-clause-tests c code paths nodes t course x lawful at among = have_tests code lawful paths nodes t course x at among
