use Rattle.std.proofs.Common.{◌≡◌, ◌++◌, take, true}
use Rattle.std.specs.Prelude.{nat_lt}
use Rattle.std.specs.List.{list_all}
use Rattle.std.specs.String.{string_bytes}
use Rattle.cnf_core.specs.Clauses.{var_of}
use Rattle.refute_check.specs.Texts.{numbers_text}
use Rattle.refute_check.proofs.write.write_literals.Given as goal

abbrev pub invariant-loop-lit : goal.invariant-loop-lit
invariant-loop-lit l = record {
  text : string_bytes l.text ≡ string_bytes l.initial.text ++ numbers_text (take l.lit-index l.literals);
  small : list_all (λ x. nat_lt (var_of x) 2147483648) (take l.lit-index l.literals) ≡ true;
}
