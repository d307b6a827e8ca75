use Rattle.std.proofs.Common.{◌≡◌, ◌++◌, ◌+◌, ◌≤◌, drop}
use Rattle.std.specs.List.{flat_map}
use Rattle.byteorder.specs.Endian.{big_bytes}
use Rattle.path_log.specs.Texts.{runs_behind}
use Rattle.path_log.proofs.writing.push_runs.Given as goal

abbrev pub invariant-loop-next : goal.invariant-loop-next
invariant-loop-next l = record {
  written : l.text.items ++ flat_map (big_bytes 2) (runs_behind l.outcome l.run (drop l.next-index l.others))
      ≡ l.initial.text.items ++ flat_map (big_bytes 2) (runs_behind l.initial.outcome 1 l.others);
  short : l.run ≤ l.next-index + 1;
}
