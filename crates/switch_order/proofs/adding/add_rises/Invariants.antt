use Rattle.std.proofs.Common.{◌≡◌, ◌+◌, ◌≤◌, ◌++◌, length}
use Rattle.std.specs.List.{flat_map, range_with_len}
use Rattle.switch_order.specs.helpers.Within.{rise_of}
use Rattle.switch_order.proofs.adding.add_rises.Given as goal

abbrev pub invariant-loop-least : goal.invariant-loop-least
invariant-loop-least l = record {
  vars : l.cnf.vars ≡ l.initial.cnf.vars;
  clauses : l.cnf.clauses ≡ l.initial.cnf.clauses
      ++ flat_map (rise_of l.before l.counts l.start l.most l.first l.second) (range_with_len 0 l.least);
  few : length l.cnf.clauses ≤ length l.initial.cnf.clauses + l.least;
}
