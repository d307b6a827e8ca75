use Rattle.std.proofs.Common.{◌≡◌, ◌<◌, drop}
use Rattle.std.specs.List.{fold}
use Rattle.refute_check.specs.helpers.Guess.{no_number, read_byte, Reader}
use Rattle.refute_check.proofs.guess.guessed.Given as goal

abbrev pub invariant-loop-byte : goal.invariant-loop-byte
invariant-loop-byte l =
    record {
      small : l.size < 4294967296;
      read : fold read_byte no_number l.bytes ≡ fold read_byte
          (let r : Reader = record { done = l.numbers.items; size = l.size; negative = l.negative } in r) (drop l.byte-index l.bytes);
    }
