-- Names of threads.
use Rattle.std.specs.Prelude.{ℕ, List, [], ◌∷◌, ◌++◌, codes}
use Rattle.std.specs.List.{flat_map}
use Rattle.std.specs.Fmt.{decimal}
use Rattle.std.specs.Ordering.{nat_cmp}
use Rattle.std.specs.Cmp.Lexicographic.{slice_cmp}
use Rattle.std.specs.FinMap.{FinMap}
use Rattle.std.specs.declared.cmp.Ordering.{Ordering}

-- the numbers of the creates that lead from main to the thread
abbrev pub Name : Type 0
Name = List ℕ

abbrev pub main : Name
main = []

-- the name of a thread's child of that number
abbrev pub child : Name → ℕ → Name
child n k = n ++ k ∷ []

-- a name as text: `0`, then a dot and the number of each create
abbrev pub name_text : Name → List ℕ
name_text n = codes "0" ++ flat_map (λ child. codes "." ++ decimal child) n

-- the order of names: lexicographic, a prefix first
abbrev pub by_name : Name → Name → Ordering
by_name = slice_cmp nat_cmp

-- a finite map whose keys are names, in this order
abbrev pub ByName : Type 0 → Type 0
ByName X = FinMap by_name X
