-- The DIMACS text of a list of clauses.
use Rattle.std.specs.Prelude.{ℕ, ℤ, List, ◌++◌, codes, length}
use Rattle.std.specs.List.{flat_map}
use Rattle.std.specs.Fmt.{decimal, signed_decimal}
use Rattle.cnf_core.specs.Clauses.{Formula}

-- the header: the number of variables and the number of clauses
abbrev pub header : Formula → List ℕ
header f =
    codes "p cnf " ++ (decimal f.vars ++ (codes " " ++ (decimal (length f.clauses) ++ codes "\n")))

-- a literal, followed by a space
abbrev pub literal_text : ℤ → List ℕ
literal_text l = signed_decimal l ++ codes " "

-- a clause's line: its literals, then 0
abbrev pub clause_line : List ℤ → List ℕ
clause_line clause = flat_map literal_text clause ++ codes "0\n"

-- the header, and a line for each clause
abbrev pub cnf_text : Formula → List ℕ
cnf_text f = header f ++ flat_map clause_line f.clauses
