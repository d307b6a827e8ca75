use Rattle.std.proofs.Common.{◌≡◌, ◌+◌, take, None}
use Rattle.std.specs.List.{fold}
use Rattle.refute_check.specs.Refutations.{start, state_after_line}
use Rattle.refute_check.proofs.whole.check.Given as goal

abbrev pub invariant-loop-line : goal.invariant-loop-line
invariant-loop-line l =
    record {
      state : l.checker ≡ fold state_after_line (start l.cnf) (take l.line-index l.line-items);
      none : l.checker.fault ≡ None;
      count : l.checker.line ≡ l.line-index + 1;
    }
