use Rattle.std.proofs.Common.{◌-◌, length}
use Rattle.refute_check.proofs.Pieces.{AreRead}
use Rattle.refute_check.proofs.refutation.read_lines.Given as goal

abbrev pub invariant-loop-from : goal.invariant-loop-from
invariant-loop-from l = AreRead l.fn.text l.bytes l.from l.lines l.text

abbrev pub decreases-loop-from : goal.decreases-loop-from
decreases-loop-from l = length l.bytes - l.from
