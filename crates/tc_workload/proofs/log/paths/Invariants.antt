use Rattle.std.proofs.Common.{◌≡◌, ◌+◌, ◌-◌, ◌++◌}
use Rattle.tc_workload.specs.Workload.{worker_paths, workload_log}
use Rattle.tc_workload.proofs.log.paths.Given as goal

abbrev pub invariant-loop-index : goal.invariant-loop-index
invariant-loop-index l = l.paths.items ++ worker_paths (l.index + 1) (l.workers - l.index) ≡ (workload_log l.workers).threads
