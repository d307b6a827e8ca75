use Rattle.std.proofs.Common.{◌≡◌, ℕ, suc, ◌+◌, ◌-◌, ◌<◌, ◌≤◌, pos, length, get_or}
use Rattle.mutex_clauses.proofs.turns.variables.new_word.Given as goal

abbrev pub invariant-loop-place : goal.invariant-loop-place
invariant-loop-place l = record {
  length : length l.word ≡ 32;
  each : (k : ℕ) → k < 32 → 32 ≤ k + l.place → get_or l.word k (pos 0) ≡ pos (suc l.initial.circuit.vars + (31 - k));
  vars : l.circuit.vars ≡ l.initial.circuit.vars + l.place;
  clauses : l.circuit.clauses ≡ l.initial.circuit.clauses;
}
