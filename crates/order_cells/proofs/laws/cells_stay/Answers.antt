use Rattle.order_cells.proofs.Stay.{known_stays, test_stays, same_stays, have_later}
use Rattle.order_cells.proofs.laws.cells_stay.Goals as goal

pub returns-clause-known : goal.returns-clause-known
returns-clause-known c = known_stays

pub returns-clause-test : goal.returns-clause-test
returns-clause-test c = test_stays

pub returns-clause-same : goal.returns-clause-same
returns-clause-same c = same_stays

pub returns-clause-accesses : goal.returns-clause-accesses
returns-clause-accesses c = have_later
