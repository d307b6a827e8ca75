-- What is left of a clause without its false literals.
use Rattle.std.specs.Prelude.{List, [], ◌∷◌, ℤ}
use Rattle.refute_check.specs.Literals.{left}
use Rattle.refute_check.specs.declared.given.Left.{Left}
use Rattle.refute_check.specs.declared.given.Left.TheVariants.{Nothing, One, More}

-- whether a list has no literal, one, or more
abbrev pub count_of_literals : List ℤ → Left
count_of_literals [] = Nothing
count_of_literals (l ∷ []) = One l
count_of_literals (l ∷ m ∷ ls) = More

-- what is left of a clause if the given literals are true
abbrev pub left_of_clause : List ℤ → List ℤ → Left
left_of_clause given c = count_of_literals (left given c)

-- selects a value by what is left
abbrev pub by_left : {A : Type 0} → Left → A → (ℤ → A) → A → A
by_left Nothing nothing one more = nothing
by_left (One l) nothing one more = one l
by_left More nothing one more = more
