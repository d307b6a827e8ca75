use Rattle.std.proofs.Common.{◌≡◌, map}
use Rattle.std.specs.List.{range_with_len}
use Rattle.bit_order.specs.Layouts.{load_word}
use Rattle.bit_blast.proofs.drafts.load_words.Given as goal

abbrev pub invariant-loop-load : goal.invariant-loop-load
invariant-loop-load l = l.words.items ≡ map (load_word l.layout) (range_with_len 0 l.load)
