use Rattle.std.proofs.Common.{ℕ, ◌<◌, IsTrue}
use Rattle.slot_liveness.specs.Tables.{is_live_in}
use Rattle.slot_liveness.specs.helpers.Closed.{must_be_live}
use Rattle.slot_liveness.proofs.check.is_closed_at.Given as goal

abbrev pub invariant-loop-slot : goal.invariant-loop-slot
invariant-loop-slot l = (k : ℕ) → k < l.slot → IsTrue (must_be_live l.table l.instr l.place k) → IsTrue (is_live_in l.table l.place k)
