-- How clauses are stored in memory.
use Rattle.std.specs.Prelude.{ℕ, ◌≤◌, List, map, length, slice_range, All}
use Rattle.cdcl_clauses.specs.Clauses.{Clause}
use Rattle.cdcl_clauses.specs.declared.clauses.Entry.{Entry}
use Rattle.cdcl_clauses.specs.declared.clauses.Clauses.TheInside.{Inside}

-- the clause of an entry
abbrev pub clause_of : List ℕ → Entry → Clause
clause_of literals e = record {
  literals = slice_range literals e.start e.end;
  first = e.first;
  second = e.second;
  kept = e.kept;
}

abbrev pub clauses_of : Inside → List Clause
clauses_of a = map (clause_of a.literals.items) a.entries.items

-- the range of an entry lies within the literals
pub record IsThere (literals : List ℕ) (e : Entry) : Type 0 where
  pub rises : e.start ≤ e.end
  pub within : e.end ≤ length literals

abbrev pub IsLaidOut : Inside → Type 0
IsLaidOut a = All (IsThere a.literals.items) a.entries.items
