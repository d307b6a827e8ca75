use Rattle.std.proofs.Common.{ℕ, List, ◌-◌, ◌≤◌, ◌++◌, length, take}
use Rattle.refutation_input.specs.helpers.Incoming.{IsRead}
use Rattle.refutation_input.proofs.incoming.Incoming.take.Given as goal

abbrev pub invariant-loop-from : goal.invariant-loop-from
invariant-loop-from l = record {
  within : l.from ≤ length l.fn.bytes;
  read : (program log front : List ℕ) → IsRead program log l.fn.self front → IsRead program log l.self (front ++ take l.from l.fn.bytes);
}

abbrev pub decreases-loop-from : goal.decreases-loop-from
decreases-loop-from l = length l.fn.bytes - l.from
