use Rattle.std.proofs.Common.{◌≡◌, ◌+◌, ◌*◌, ◌≤◌, ◌++◌, length}
use Rattle.std.specs.List.{flat_map, range_with_len}
use Rattle.switch_order.specs.Levels.{rises_from}
use Rattle.switch_order.proofs.adding.add_levels.Given as goal

abbrev pub invariant-loop-first : goal.invariant-loop-first
invariant-loop-first l = record {
  vars : l.cnf.vars ≡ l.initial.cnf.vars;
  clauses : l.cnf.clauses ≡ l.initial.cnf.clauses
      ++ flat_map (rises_from l.layout l.threads l.failing l.start l.most) (range_with_len 0 l.first);
  few : length l.cnf.clauses ≤ length l.initial.cnf.clauses + l.first * (l.layout.order.events * (l.most + 1));
}
