use Rattle.condition_order.proofs.wait.Wait.of.Goals as goal
use Rattle.condition_order.proofs.wait.Wait.of.Goals.{in-Some, in-None}

pub returns : goal.returns
returns c = elim c.match-placed.branch [
  | in-Some w ↦ rw (w.in-Some.is, w.wakes-is, w.number.ensures, c.number-2.ensures)
  | in-None w ↦ rw (w.in-None.is, w.wakes-is, c.number-2.ensures)
]
