use Rattle.run_history.proofs.of_pending.Own.{own_has_last, own_has_none}
use Rattle.run_history.proofs.pending.own_stores_are_last.Goals as goal

pub returns-clause-last : goal.returns-clause-last
returns-clause-last c = own_has_last

pub returns-clause-none : goal.returns-clause-none
returns-clause-none c = own_has_none
