use Rattle.std.proofs.Common.{◌≡◌, ◌+◌, ◌*◌, ◌≤◌, ◌++◌, length}
use Rattle.std.specs.List.{flat_map, range_with_len}
use Rattle.switch_order.specs.Levels.{rises}
use Rattle.switch_order.proofs.adding.add_rises_from.Given as goal

abbrev pub invariant-loop-second : goal.invariant-loop-second
invariant-loop-second l = record {
  vars : l.cnf.vars ≡ l.initial.cnf.vars;
  clauses : l.cnf.clauses ≡ l.initial.cnf.clauses
      ++ flat_map (rises l.layout l.threads l.failing l.start l.most l.first) (range_with_len 0 l.second);
  few : length l.cnf.clauses ≤ length l.initial.cnf.clauses + l.second * (l.most + 1);
}
