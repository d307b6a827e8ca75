use Rattle.std.proofs.Common.{◌≡◌, ℕ, ◌+◌, ◌-◌, ◌<◌, pos, length, get_or}
use Rattle.bit_order.proofs.words.word_from.Given as goal

abbrev pub invariant-loop-place : goal.invariant-loop-place
invariant-loop-place g l = record {
  length : length l.word ≡ g.row.W;
  each : (k : ℕ) → k < l.place → get_or l.word k (pos 0) ≡ pos (l.first + (g.row.W - 1 - k));
}
