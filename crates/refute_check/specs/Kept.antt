-- Clauses by their numbers.
use Rattle.std.specs.Prelude.{ℤ, List}
use Rattle.std.specs.Ordering.{nat_cmp}
use Rattle.std.specs.FinMap.{FinMap, code}
use Rattle.std.specs.Coded.{Coded, coded_ℕ, coded_ℤ, coded_list}

-- a finite map from numbers to clauses
abbrev pub KeptClauses : Type 0
KeptClauses = FinMap nat_cmp (List ℤ)

-- a finite map is stored as the list of its entries
abbrev pub kept_code : Coded KeptClauses
kept_code = code coded_ℕ (coded_list coded_ℤ)
