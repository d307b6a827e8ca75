use Rattle.std.proofs.Common.{◌≤◌}
use Rattle.show_names.proofs.text.lines_of.Given as goal

abbrev pub invariant-loop-i : goal.invariant-loop-i
invariant-loop-i l = l.start ≤ l.i
