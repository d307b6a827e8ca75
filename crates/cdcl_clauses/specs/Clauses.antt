-- The clauses of a search, and the watch lists of literals.
use Rattle.std.specs.Prelude.{ℕ, Bool, true, false, ◌&&◌, ◌||◌, ◌==◌, List, [], if◌then◌else◌, slice_index_or, slice_set}
use Rattle.std.specs.List.{swap_remove}
use Rattle.cdcl_clauses.specs.declared.watches.Watch.{Watch}

-- the literals of a clause, the two of them that it watches, and whether it is kept
pub record Clause : Type 0 where
  pub literals : List ℕ
  pub first : ℕ
  pub second : ℕ
  pub kept : Bool

-- the clause past the end of a list
abbrev pub no_clause : Clause
no_clause = record { literals = []; first = 0; second = 0; kept = false }

-- the clause at an index
abbrev pub at : List Clause → ℕ → Clause
at cs k = slice_index_or cs k no_clause

-- a kept clause, with the two literals that it watches
abbrev pub kept_clause : List ℕ → ℕ → ℕ → Clause
kept_clause literals first second =
    record { literals = literals; first = first; second = second; kept = true }

-- the clauses once the one at an index is dropped
abbrev pub dropped : List Clause → ℕ → List Clause
dropped cs k = slice_set cs k (record (at cs k) { kept = false })

-- whether a clause is kept and watches the literal
abbrev pub watches : Clause → ℕ → Bool
watches c l = c.kept && (c.first == l || c.second == l)

-- the literal that a clause watches beside another
abbrev pub beside : Clause → ℕ → ℕ
beside c l = if c.first == l then c.second else c.first

-- the watch list of a literal
abbrev pub listed : List (List Watch) → ℕ → List Watch
listed ws l = slice_index_or ws l []

-- a watch list after the watch at a place is removed and the last one takes its place
abbrev pub without_place : List Watch → ℕ → List Watch
without_place us p = swap_remove us p (record { clause = 0; blocker = 0 })
