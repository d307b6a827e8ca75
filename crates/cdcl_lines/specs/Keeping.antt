-- A search and a checker keep the same clauses, line after line.
use Rattle.std.specs.Prelude.{◌≡◌, ◌≢◌, ℕ, suc, ◌+◌, ◌*◌, ◌<◌, ◌≤◌, true, if◌then◌else◌, List, [], ◌∷◌, ◌++◌, length, slice_get, All, AllPairs, ℤ, Option, Some, None, IfSome, fold}
use Rattle.std.specs.FinMap.{get}
use Rattle.refute_check.specs.Refutations.{Checking, keep, opening, state_after_line, state_after_pass, line_fault}
use Rattle.refute_check.specs.declared.line.Line.{Line}
use Rattle.cdcl_learn.specs.cdcl_clauses.Clauses.{Clause, at, kept_clause, dropped}
use Rattle.cdcl_learn.specs.cdcl_clauses.Invariants.{AreSame}
use Rattle.cdcl_learn.specs.Shown.{Shows}
use Rattle.cdcl_lines.specs.Literals.{clause_of, Rise}
use Rattle.cdcl_lines.specs.Lines.{added, deleted}

-- a search's clause as a checker stores it, if it is kept
abbrev pub as_kept : Clause → Option (List ℤ)
as_kept c = if c.kept then Some (clause_of c.literals) else None

-- the checker keeps what the search keeps, under numbers one above the indexes, and found no fault
pub record Represents (cs : List Clause) (s : Checking) : Type 0 where
  pub none : get s.kept 0 ≡ None
  pub same : (k : ℕ) → get s.kept (suc k) ≡ as_kept (at cs k)
  pub next : s.next ≡ suc (length cs)
  pub fault : s.fault ≡ None
  pub rise : (k : ℕ) → (at cs k).kept ≡ true → Rise (at cs k).literals

-- the line passes in this state
pub record Passes (s : Checking) (l : Line) : Type 0 where
  pub no_fault : line_fault (s.line + 1) s.vars s.kept l ≡ None
  pub leaves : state_after_line s l ≡ state_after_pass s l

-- the opening state represents a search without clauses
abbrev pub OpeningIsRepresented : Type 0
OpeningIsRepresented = (vars : ℕ) → Represents [] (opening vars)

-- a state that represents a search does so after both keep one more clause of a formula
abbrev pub KeepIsRepresented : Type 0
KeepIsRepresented =
    (cs : List Clause) (s : Checking) (literals : List ℕ) (first second : ℕ) → Represents cs s
    → Rise literals
    → Represents (cs ++ kept_clause literals first second ∷ []) (keep s (clause_of literals))

-- a state that represents a search does so if clauses watch other literals
abbrev pub SameAreRepresented : Type 0
SameAreRepresented =
    (cs ds : List Clause) (s : Checking) → Represents cs s → AreSame cs ds → Represents ds s

-- a line whose hints prove its clause passes, and the clause is kept on both sides
abbrev pub ShownPasses : Type 0
ShownPasses =
    (cs : List Clause) (s : Checking) (literals hints : List ℕ) → Represents cs s
    → All (λ l. l < 2 * s.vars) literals → Rise literals
    → Shows cs literals hints
    → Passes s (added literals hints)
    × ((first second : ℕ)
    → Represents (cs ++ kept_clause literals first second ∷ [])
    (state_after_pass s (added literals hints)))

-- the hints are clauses of the search
abbrev pub HintsAreThere : Type 0
HintsAreThere =
    (cs : List Clause) (literals hints : List ℕ) → Shows cs literals hints
    → All (λ k. k < length cs) hints

-- a line that adds an empty clause closes the derivation
abbrev pub EmptyCloses : Type 0
EmptyCloses = (s : Checking) (hints : List ℕ) → (state_after_pass s (added [] hints)).closed ≡ true

-- these clauses are kept, and none is named twice
pub record CanDrop (cs : List Clause) (ks : List ℕ) : Type 0 where
  pub kept : All (λ k. (at cs k).kept ≡ true) ks
  pub once : AllPairs (λ i k. i ≢ k) ks

-- a line that deletes such clauses passes, and they are dropped on both sides
abbrev pub DropPasses : Type 0
DropPasses =
    (cs : List Clause) (s : Checking) (ks : List ℕ) → Represents cs s → CanDrop cs ks
    → Passes s (deleted ks) × Represents (fold dropped cs ks) (state_after_pass s (deleted ks))

-- each clause of a formula is kept at its index
abbrev pub KeepsAll : List (List ℤ) → List Clause → Type 0
KeepsAll clauses cs = (k : ℕ) → IfSome (slice_get clauses k) (λ c. as_kept (at cs k) ≡ Some c)

-- the same for a formula with one more clause, once that clause is kept
abbrev pub KeepsOneMore : Type 0
KeepsOneMore =
    (clauses : List (List ℤ)) (cs : List Clause) (literals : List ℕ) (first second : ℕ)
    → KeepsAll clauses cs → length cs ≡ length clauses
    → KeepsAll (clauses ++ clause_of literals ∷ []) (cs ++ kept_clause literals first second ∷ [])

-- the same if clauses watch other literals, are learnt, or are dropped after the formula's
abbrev pub KeepsOn : Type 0
KeepsOn =
    (clauses : List (List ℤ)) (cs : List Clause) → KeepsAll clauses cs
    → ((ds : List Clause) → AreSame cs ds → KeepsAll clauses ds)
    × ((c : Clause) → KeepsAll clauses (cs ++ c ∷ []))
    × ((ks : List ℕ) → All (λ k. length clauses ≤ k) ks → KeepsAll clauses (fold dropped cs ks))
