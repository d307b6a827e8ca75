use Rattle.std.proofs.Common.{◌≡◌, ◌++◌, ◌∷◌, take, drop, length}
use Rattle.bit_shift.proofs.shift_in.Given as goal

abbrev pub invariant-loop-place : goal.invariant-loop-place
invariant-loop-place l = record {
  all : l.initial.next ∷ l.initial.word ≡ take l.place l.word ++ (l.next ∷ drop l.place l.word);
  length : length l.word ≡ length l.initial.word;
}
