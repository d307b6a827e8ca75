-- Two elements of a list, with the elements between them.
use Rattle.std.specs.Prelude.{List, [], ◌∷◌, ◌++◌}

pub record Two (X : Type 0) : Type 0 where
  pub first : X
  pub between : List X
  pub second : X

-- the element x with each element of `after`, where `between` lies before `after`
abbrev pub twos_with : {X : Type 0} → X → (between after : List X) → List (Two X)
twos_with x between [] = []
twos_with x between (y ∷ ys) =
    record { first = x; between = between; second = y } ∷ twos_with x (between ++ y ∷ []) ys

-- each element of a list with each later one
abbrev pub twos : {X : Type 0} → List X → List (Two X)
twos [] = []
twos (x ∷ xs) = twos_with x [] xs ++ twos xs
