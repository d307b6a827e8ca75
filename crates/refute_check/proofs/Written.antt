-- A line with all numbers in range is one that the format allows.
use Rattle.std.proofs.lemmas.Bool.{and_parts, and_from}
use Rattle.std.proofs.Common.{◌≡◌, ℕ, ℤ, List, [], ◌∷◌, true, refl}
use Rattle.std.specs.Prelude.{nat_lt, not, ◌&&◌}
use Rattle.std.specs.List.{list_all}
use Rattle.cnf_core.specs.Clauses.{is_clause, var_of}
use Rattle.list_laws.specs.Lists.{is_nil}
use Rattle.refute_check.specs.Numbers.{are_numbers}
use Rattle.refute_check.specs.Refutations.{is_line}
use Rattle.refute_check.specs.Texts.{is_readable}
use Rattle.refute_check.specs.declared.line.Line.{Line}
use Rattle.refute_check.specs.declared.line.Line.TheVariants.{Add, Delete}

are_written : (ns : List ℕ) → are_numbers ns ≡ true → list_all (λ n. nat_lt n 4294967296) ns ≡ true
    → list_all (λ n. nat_lt 0 n && nat_lt n 4294967296) ns ≡ true
are_written [] a b = refl
are_written (n ∷ ns) a b =
    let p = and_parts (nat_lt 0 n) (are_numbers ns) a in
    let q = and_parts (nat_lt n 4294967296) (list_all (λ n. nat_lt n 4294967296) ns) b in
    and_from _ _ (and_from _ _ p.0 q.0) (are_written ns p.1 q.1)

pub added_is_readable : (lits : List ℤ) (hints : List ℕ) → is_clause lits ≡ true → list_all (λ l. nat_lt (var_of l) 2147483648) lits ≡ true
    → are_numbers hints ≡ true → list_all (λ n. nat_lt n 4294967296) hints ≡ true → is_readable (Add lits hints) ≡ true
added_is_readable lits hints rises small numbers short = and_from _ _ (and_from _ _ rises small) (are_written hints numbers short)

pub deleted_is_readable : (ns : List ℕ) → are_numbers ns ≡ true → list_all (λ n. nat_lt n 4294967296) ns ≡ true → is_line (Delete ns) ≡ true
    → is_readable (Delete ns) ≡ true
deleted_is_readable ns numbers short some = and_from _ _ some (are_written ns numbers short)
