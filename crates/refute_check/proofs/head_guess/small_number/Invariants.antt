use Rattle.std.proofs.Common.{◌≡◌, ◌<◌, drop}
use Rattle.std.specs.List.{fold}
use Rattle.refute_check.specs.helpers.Guess.{with_digit, small_number}
use Rattle.refute_check.proofs.head_guess.small_number.Given as goal

abbrev pub invariant-loop-digit : goal.invariant-loop-digit
invariant-loop-digit l =
    record {
      number : small_number l.digits ≡ fold with_digit l.number (drop l.digit-index l.digits);
      small : l.number < 256;
    }
