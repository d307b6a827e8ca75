use Rattle.std.proofs.Common.{◌≡◌, ◌++◌, drop}
use Rattle.refute_check.specs.helpers.Guess.{literals_in}
use Rattle.refute_check.proofs.guess.literals_in.Given as goal

abbrev pub invariant-loop-number : goal.invariant-loop-number
invariant-loop-number l = literals_in l.numbers ≡ l.literals.items ++ literals_in (drop l.number-index l.numbers)
