-- A search's literals and clauses in the form that a checker uses.
use Rattle.std.specs.Prelude.{ℕ, suc, ◌+◌, ◌-◌, ◌*◌, ◌%◌, ◌==◌, if◌then◌else◌, List, map, ℤ, pos, negsuc, IsTrue}
use Rattle.cnf_core.specs.Clauses.{is_clause}
use Rattle.cdcl_literals.specs.Literals.{variable_of}

-- the literal of a number: variables count from 1, and odd numbers are negated literals
abbrev pub literal_of : ℕ → ℤ
literal_of l = if l % 2 == 0 then pos (suc (variable_of l)) else negsuc (variable_of l)

-- the number of a literal
abbrev pub code_of : ℤ → ℕ
code_of (pos n) = 2 * (n - 1)
code_of (negsuc n) = 2 * n + 1

-- the clause of a list of numbers
abbrev pub clause_of : List ℕ → List ℤ
clause_of ls = map literal_of ls

-- the literals rise strictly by variable
abbrev pub Rise : List ℕ → Type 0
Rise ls = IsTrue (is_clause (clause_of ls))

-- the numbers of clauses, whose indexes count from 0
abbrev pub numbers_of : List ℕ → List ℕ
numbers_of ks = map suc ks
