-- How many cells, mutexes and conditions the global declarations of a program make.
use Rattle.std.specs.Prelude.{ℕ, ◌+◌, ℤ, pos, List, [], ◌∷◌}
use Rattle.tc_tree.specs.declared.program.Global.{Global}
use Rattle.tc_tree.specs.declared.program.Global.TheVariants.{Int, Array, Mutex, Condition}

-- a length as a natural number; in a text, lengths are never negative
abbrev pub elements : ℤ → ℕ
elements (pos n) = n
elements _ = 0

abbrev pub cells_of : Global → ℕ
cells_of (Int x i) = 1
cells_of (Array a n) = elements n.value
cells_of (Mutex m) = 0
cells_of (Condition c) = 0

-- the number of cells: one for each int, and one for each element of an array
abbrev pub cells : List Global → ℕ
cells [] = 0
cells (g ∷ gs) = cells_of g + cells gs

abbrev pub mutexes : List Global → ℕ
mutexes [] = 0
mutexes (Mutex m ∷ gs) = 1 + mutexes gs
mutexes (g ∷ gs) = mutexes gs

abbrev pub conditions : List Global → ℕ
conditions [] = 0
conditions (Condition c ∷ gs) = 1 + conditions gs
conditions (g ∷ gs) = conditions gs
