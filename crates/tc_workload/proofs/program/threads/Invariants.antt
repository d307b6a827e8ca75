use Rattle.std.proofs.Common.{◌≡◌, ◌+◌, ◌++◌, drop, length}
use Rattle.std.specs.Prelude.{string_bytes}
use Rattle.tc_workload.specs.Workload.{worker_lines}
use Rattle.tc_workload.proofs.program.threads.Given as goal

abbrev pub invariant-loop-index : goal.invariant-loop-index
invariant-loop-index l =
    string_bytes l.text ++ worker_lines (length l.words) (l.index + 1) (drop l.index l.words) ≡ worker_lines (length l.words) 1 l.words
