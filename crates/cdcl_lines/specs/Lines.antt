-- Lines about a search's clauses.
use Rattle.std.specs.Prelude.{ℕ, List}
use Rattle.refute_check.specs.declared.line.Line.{Line}
use Rattle.refute_check.specs.declared.line.Line.TheVariants.{Add, Delete}
use Rattle.cdcl_lines.specs.Literals.{clause_of, numbers_of}

-- the line that adds a clause, proved by the clauses at these indexes
abbrev pub added : List ℕ → List ℕ → Line
added literals hints = Add (clause_of literals) (numbers_of hints)

-- the line that deletes the clauses at these indexes
abbrev pub deleted : List ℕ → Line
deleted ks = Delete (numbers_of ks)
