use Rattle.std.proofs.Common.{◌≡◌, take}
use Rattle.std.specs.List.{fold}
use Rattle.none_certificates.specs.helpers.Guess.{no_word, read_byte}
use Rattle.none_certificates.proofs.guess.line_in.Given as goal

abbrev pub invariant-loop-byte : goal.invariant-loop-byte
invariant-loop-byte l = l.reader ≡ fold read_byte no_word (take l.byte-index l.bytes)
