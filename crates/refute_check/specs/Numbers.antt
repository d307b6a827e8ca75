-- Numbers of clauses.
use Rattle.std.specs.Prelude.{ℕ, Bool, nat_lt, List}
use Rattle.std.specs.List.{list_all}

-- each number of a clause is at least 1
abbrev pub are_numbers : List ℕ → Bool
are_numbers ns = list_all (λ n. nat_lt 0 n) ns
