-- Literals in lists.
use Rattle.std.specs.Prelude.{Bool, List, ℤ, neg_ℤ, not}
use Rattle.std.specs.List.{list_any, filter}
use Rattle.std.specs.Ordering.{int_eq}

-- whether a literal is in a list
abbrev pub is_among : List ℤ → ℤ → Bool
is_among given l = list_any (int_eq l) given

-- the literals of a clause that aren't false if the given ones are true
abbrev pub left : List ℤ → List ℤ → List ℤ
left given c = filter (λ l. not (is_among given (neg_ℤ l))) c
