use Rattle.std.proofs.Common.{◌≡◌, ◌+◌, ◌-◌, ◌≤◌, length}
use Rattle.std.specs.Io.KnownBytes.{Consumes}
use Rattle.tc_io.specs.Outside.{capped_sum}
use Rattle.tc_io.proofs.files.read_up_to.Given as goal

abbrev pub invariant-loop-want : goal.invariant-loop-want
invariant-loop-want g l = record {
  within : length l.bytes.items ≤ l.limit;
  counted : l.taken ≡ capped_sum l.fn.taken (length l.bytes.items);
  told : Consumes (g.R.Read.remaining l.fn.from) (g.R.Read.remaining l.from) l.bytes.items;
}

abbrev pub decreases-loop-want : goal.decreases-loop-want
decreases-loop-want g l = (l.limit + 1) - length l.bytes.items
