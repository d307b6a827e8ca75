use Rattle.std.proofs.Common.{◌≡◌}
use Rattle.std.specs.FinMap as fin
use Rattle.tc_threads.proofs.ByName.{at_name}
use Rattle.show_rows.proofs.thread.thread_of.Given as goal

abbrev pub invariant-loop-other : goal.invariant-loop-other
invariant-loop-other g l = fin.get l.state.threads l.name ≡ at_name l.other-iterator l.name
