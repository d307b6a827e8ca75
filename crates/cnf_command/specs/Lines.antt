-- The line of the result of `cnf`.
use Rattle.std.specs.Prelude.{ℕ, List, ◌++◌, length, codes}
use Rattle.std.specs.Fmt.{decimal}
use Rattle.cnf_core.specs.Clauses.{Formula}

-- the line with the number of variables and clauses
abbrev pub clauses_line : Formula → List ℕ
clauses_line f =
    codes "cnf "
    ++ (decimal f.vars
    ++ (codes " variables, " ++ (decimal (length f.clauses) ++ codes " clauses\n")))
