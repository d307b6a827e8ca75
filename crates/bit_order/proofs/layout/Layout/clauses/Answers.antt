use Rattle.bit_order.proofs.Counts.{asked_few}
use Rattle.bit_order.proofs.layout.Layout.clauses.Goals as goal

pub add_clauses-requires-clause-asked : goal.add_clauses-requires-clause-asked
add_clauses-requires-clause-asked c = asked_few (record { order = c.args.order; loads = c.args.loads }) c.pairs-asked.ensures.lawful
