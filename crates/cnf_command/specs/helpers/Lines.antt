-- Lines with numbers.
use Rattle.std.specs.Prelude.{ℕ, List, ◌++◌, codes}
use Rattle.std.specs.Fmt.{decimal}

-- the line with the number of variables and clauses
abbrev pub count_line : (variables clauses : ℕ) → List ℕ
count_line variables clauses =
    codes "cnf "
    ++ (decimal variables ++ (codes " variables, " ++ (decimal clauses ++ codes " clauses\n")))
