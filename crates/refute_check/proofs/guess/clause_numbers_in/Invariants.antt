use Rattle.std.proofs.Common.{◌≡◌, ◌++◌, drop, true}
use Rattle.refute_check.specs.Numbers.{are_numbers}
use Rattle.refute_check.specs.helpers.Guess.{clause_numbers_in}
use Rattle.refute_check.proofs.guess.clause_numbers_in.Given as goal

abbrev pub invariant-loop-number : goal.invariant-loop-number
invariant-loop-number l = record {
  positive : are_numbers l.found.items ≡ true;
  found : clause_numbers_in l.numbers ≡ l.found.items ++
      clause_numbers_in (drop l.number-index l.numbers);
}
