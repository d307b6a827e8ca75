use Rattle.std.proofs.Common.{◌≡◌, drop, length}
use Rattle.tc_lower.specs.helpers.Bodies.{filled}
use Rattle.tc_lower.proofs.statement.Body.join.Given as goal

-- the remaining jumps aren't written yet
abbrev pub invariant-loop-jump : goal.invariant-loop-jump
invariant-loop-jump l = record {
  target : l.target ≡ length l.fn.self.code.draft;
  draft : filled l.target (drop l.jump-index l.jumps) l.self.code.draft ≡ filled l.target l.jumps l.fn.self.code.draft;
  size : length l.self.code.draft ≡ length l.fn.self.code.draft;
  lines : l.self.lines.items ≡ l.fn.self.lines.items;
  free : l.self.code.free ≡ l.fn.self.code.free;
}
