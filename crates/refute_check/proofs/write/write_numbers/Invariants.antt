use Rattle.std.proofs.Common.{◌≡◌, ◌++◌, take, map, pos, true}
use Rattle.std.specs.Prelude.{nat_lt}
use Rattle.std.specs.List.{list_all}
use Rattle.std.specs.String.{string_bytes}
use Rattle.refute_check.specs.Texts.{numbers_text}
use Rattle.refute_check.proofs.write.write_numbers.Given as goal

abbrev pub invariant-loop-number : goal.invariant-loop-number
invariant-loop-number l = record {
  text : string_bytes l.text ≡ string_bytes l.initial.text ++ numbers_text (map pos (take l.number-index l.numbers));
  small : list_all (λ n. nat_lt n 4294967296) (take l.number-index l.numbers) ≡ true;
}
