use Rattle.std.proofs.Common.{◌≡◌, ◌++◌, take, drop, length}
use Rattle.bit_words.specs.Words.{inverted_word}
use Rattle.bit_words.proofs.invert.Given as goal

abbrev pub invariant-loop-place : goal.invariant-loop-place
invariant-loop-place l = record {
  all : inverted_word l.initial.word ≡ take l.place l.word ++ inverted_word (drop l.place l.word);
  length : length l.word ≡ length l.initial.word;
}
