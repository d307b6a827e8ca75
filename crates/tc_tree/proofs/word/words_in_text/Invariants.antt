use Rattle.std.proofs.Common.{◌≡◌, ◌++◌, false, length}
use Rattle.tc_tree.specs.Words.{words_after}
use Rattle.tc_tree.proofs.word.words_in_text.Given as goal

-- the words so far, together with those of the rest, are all words
abbrev pub invariant-loop-word : goal.invariant-loop-word
invariant-loop-word l = words_after l.text false false l.plain ≡ l.words.items ++ words_after l.text l.named l.assigned l.rest

abbrev pub decreases-loop-word : goal.decreases-loop-word
decreases-loop-word l = length l.rest
