-- Derivations, and how a checker judges them line by line.
use Rattle.std.specs.Prelude.{◌≡◌, ℕ, ◌+◌, ◌≤◌, Bool, true, false, not, ◌&&◌, ◌||◌, if◌then◌else◌, List, [], ◌∷◌, ◌++◌, map, length, ℤ, neg_ℤ, Option, Some, None, is_some, Result, Ok, Err, IsTrue}
use Rattle.std.specs.List.{list_all, fold}
use Rattle.std.specs.Option.{option_map_or}
use Rattle.std.specs.FinMap.{empty, get, insert, remove}
use Rattle.cnf_core.specs.Clauses.{Formula, is_within}
use Rattle.refute_check.specs.Left.{by_left, left_of_clause}
use Rattle.list_laws.specs.Lists.{is_nil}
use Rattle.refute_check.specs.Kept.{KeptClauses}
use Rattle.refute_check.specs.declared.line.TheConstants.{LINES}
use Rattle.refute_check.specs.declared.line.Line.{Line}
use Rattle.refute_check.specs.declared.line.Line.TheVariants.{Add, Delete}
use Rattle.refute_check.specs.declared.verdict.CheckFault.{CheckFault}
use Rattle.refute_check.specs.declared.verdict.CheckFault.TheVariants.{NoVariable, NoClause, Hint, NoConflict}
use Rattle.refute_check.specs.declared.verdict.Checked.{Checked}
use Rattle.refute_check.specs.declared.verdict.Checked.TheVariants.{Closed, Open}

-- whether a line may be in a derivation: a deletion names at least one clause
abbrev pub is_line : Line → Bool
is_line (Add lits hints) = true
is_line (Delete ns) = not (is_nil ns)

-- a derivation: at most `LINES` such lines
abbrev pub IsDerivation : List Line → Type 0
IsDerivation lines = (length lines ≤ LINES) × IsTrue (list_all is_line lines)

-- the first fault of the hints of line `n`, taken in turn, if the given literals are true
abbrev pub hints_fault : ℕ → KeptClauses → List ℤ → List ℕ → Option CheckFault
hints_fault n kept given [] = Some (NoConflict n)
hints_fault n kept given (h ∷ hs) =
    option_map_or
    (λ c. by_left (left_of_clause given c) (if is_nil hs then None else Some (Hint n))
    (λ l. hints_fault n kept (given ++ l ∷ []) hs) (Some (Hint n)))
    (get kept h)
    (Some (NoClause n))

-- whether the clauses of these numbers can be deleted one after the other
abbrev pub can_delete : KeptClauses → List ℕ → Bool
can_delete kept [] = true
can_delete kept (n ∷ ns) = is_some (get kept n) && can_delete (remove kept n) ns

-- the kept clauses without those of these numbers
abbrev pub without_clauses : KeptClauses → List ℕ → KeptClauses
without_clauses kept ns = fold remove kept ns

-- the first fault of line `n` if it adds a clause, over `vars` variables and the kept clauses
abbrev pub clause_fault : ℕ → ℕ → KeptClauses → List ℤ → List ℕ → Option CheckFault
clause_fault n vars kept lits hints =
    if is_within vars lits then hints_fault n kept (map neg_ℤ lits) hints else Some (NoVariable n)

-- the first fault of line `n`
abbrev pub line_fault : ℕ → ℕ → KeptClauses → Line → Option CheckFault
line_fault n vars kept (Add lits hints) = clause_fault n vars kept lits hints
line_fault n vars kept (Delete ns) = if can_delete kept ns then None else Some (NoClause n)

-- the state of a checker between two lines
pub record Checking : Type 0 where
  -- the number of the last line; the header is line 1
  pub line : ℕ
  pub vars : ℕ
  pub kept : KeptClauses
  -- the number of the next clause
  pub next : ℕ
  -- whether an empty clause was added
  pub closed : Bool
  -- the first fault; after it no clause is kept
  pub fault : Option CheckFault

-- keeps one more clause, under the next number
abbrev pub keep : Checking → List ℤ → Checking
keep s c = record s { kept = insert s.kept s.next c; next = s.next + 1 }

-- the state before any clause, over `vars` variables
abbrev pub opening : ℕ → Checking
opening vars =
    record { line = 1; vars = vars; kept = empty; next = 1; closed = false; fault = None }

-- the state with the clauses of a formula, numbered 1, 2 and so on
abbrev pub start : Formula → Checking
start f = fold keep (opening f.vars) f.clauses

-- the state after a line that adds a clause and passes
abbrev pub passed_clause : Checking → List ℤ → Checking
passed_clause s lits = record (keep s lits) { line = s.line + 1; closed = s.closed || is_nil lits }

-- the state after a line that passes
abbrev pub state_after_pass : Checking → Line → Checking
state_after_pass s (Add lits hints) = passed_clause s lits
state_after_pass s (Delete ns) = record s { line = s.line + 1; kept = without_clauses s.kept ns }

-- the state after a line with a fault
abbrev pub state_after_fault : CheckFault → Checking → Checking
state_after_fault f s = record s { line = s.line + 1; kept = empty; fault = Some f }

-- the state after a line with this first fault, if any
abbrev pub state_after_verdict : Option CheckFault → Checking → Line → Checking
state_after_verdict None s l = state_after_pass s l
state_after_verdict (Some f) s l = state_after_fault f s

-- the state after a line; after a fault, nothing changes any more
abbrev pub state_after_line : Checking → Line → Checking
state_after_line s l =
    if is_some s.fault then s else state_after_verdict (line_fault (s.line + 1) s.vars s.kept l) s l

-- the first fault, or else whether an empty clause was added
abbrev pub verdict_of : Option CheckFault → Bool → Result Checked CheckFault
verdict_of None closed = Ok (if closed then Closed else Open)
verdict_of (Some f) closed = Err f

abbrev pub verdict : Checking → Result Checked CheckFault
verdict s = verdict_of s.fault s.closed

-- the verdict on a derivation over a formula's clauses
abbrev pub check : Formula → List Line → Result Checked CheckFault
check f lines = verdict (fold state_after_line (start f) lines)

abbrev pub IsClosed : Formula → List Line → Type 0
IsClosed f lines = check f lines ≡ Ok Closed

abbrev pub IsOpen : Formula → List Line → Type 0
IsOpen f lines = check f lines ≡ Ok Open
