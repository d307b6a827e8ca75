-- A search as its callers see it.
use Rattle.std.specs.Prelude.{◌≡◌, ◌↔◌, ℕ, ◌+◌, ◌*◌, ◌/◌, ◌<◌, ◌≤◌, Bool, true, false, List, [], ◌∷◌, length, take, count_by, slice_get, IfSome}
use Rattle.std.specs.Prelude.{Option, Some, None, IsTrue, All, ⊤}
use Rattle.std.specs.List.{fold, sum_by}
use Rattle.cnf_core.specs.Clauses.{Formula, satisfies, value_in}
use Rattle.refute_check.specs.Refutations.{Checking, start, state_after_line, IsClosed}
use Rattle.refute_check.specs.declared.line.Line.{Line}
use Rattle.refute_check.specs.declared.line.Line.TheVariants.{Add, Delete}
use Rattle.cdcl_lines.specs.Fresh.{AreFresh}
use Rattle.cdcl_core.specs.declared.progress.Progress.{Progress}
use Rattle.cdcl_core.specs.declared.progress.Progress.TheVariants.{Sat, Closed, Paused}

-- whether a line adds a clause
abbrev pub adds : Line → Bool
adds (Add literals hints) = true
adds (Delete numbers) = false

-- whether a line adds a clause that isn't empty
abbrev pub teaches : Line → Bool
teaches (Add [] hints) = false
teaches (Add (l ∷ ls) hints) = true
teaches (Delete numbers) = false

-- how many lines add a clause that isn't empty
abbrev pub count_of_added : List Line → ℕ
count_of_added lines = count_by teaches lines

-- how many clauses a line deletes
abbrev pub deletes : Line → ℕ
deletes (Add literals hints) = 0
deletes (Delete numbers) = length numbers

-- how many clauses lines delete
abbrev pub count_of_deleted : List Line → ℕ
count_of_deleted lines = sum_by deletes lines

-- a line deletes none of the first `n` clauses
abbrev pub Spares : ℕ → Line → Type 0
Spares n (Add literals hints) = ⊤
Spares n (Delete numbers) = All (λ k. n < k) numbers

-- of the clauses that lines added, at most half, the variables' number and 4,000 more are kept
abbrev pub IsRoomy : ℕ → List Line → Type 0
IsRoomy vars lines =
    count_by adds lines ≤ count_of_deleted lines + vars + 4000 + (count_by adds lines + 1) / 2

-- no clause of the formula is deleted; at most half of the added clauses are deleted at each line;
-- and not too many are kept just before each line that adds one
pub record DeletesFew (f : Formula) (lines : List Line) : Type 0 where
  pub spares : All (Spares (length f.clauses)) lines
  pub few : (k : ℕ) → 2 * count_of_deleted (take k lines) ≤ count_by adds (take k lines)
  pub roomy : (k : ℕ)
      → IfSome (slice_get lines k) (λ l. adds l ≡ true → IsRoomy f.vars (take k lines))

-- each variable has a value, and the values satisfy the clauses
pub record IsSolution (f : Formula) (values : List Bool) : Type 0 where
  pub all : length values ≡ f.vars
  pub satisfies : IsTrue (satisfies (value_in values) f.clauses)

-- the clauses that a search began with, its lines so far, and its answer, if there is one
pub record Searched : Type 0 where
  pub formula : Formula
  pub lines : List Line
  pub answer : Option Progress

-- the state of a checker after these lines
abbrev pub checked : Formula → List Line → Checking
checked f lines = fold state_after_line (start f) lines

-- each line passes and is fresh, and few clauses are deleted; the answer is `Closed` exactly if the
-- derivation is closed; until then no added clause is empty; values as answer satisfy the clauses
pub record IsSearched (s : Searched) : Type 0 where
  pub passes : (checked s.formula s.lines).fault ≡ None
  pub fresh : AreFresh s.formula s.lines
  pub few : DeletesFew s.formula s.lines
  pub closed : IsClosed s.formula s.lines ↔ (s.answer ≡ Some Closed)
  pub not_empty : (s.answer ≡ Some Closed → ⊥) → count_by adds s.lines ≡ count_of_added s.lines
  pub satisfied : (values : List Bool) → s.answer ≡ Some (Sat values) → IsSolution s.formula values

-- the same formula, and maybe more lines
pub record GoesOn (s t : Searched) : Type 0 where
  pub formula : t.formula ≡ s.formula
  pub lines : take (length s.lines) t.lines ≡ s.lines

-- a search answers for good before it learns as many clauses as asked for, or pauses at that number
abbrev pub Answers : Searched → Searched → ℕ → Progress → Type 0
Answers s t conflicts (Sat values) =
    (t.answer ≡ Some (Sat values)) × (count_of_added t.lines < count_of_added s.lines + conflicts)
Answers s t conflicts Closed =
    (t.answer ≡ Some Closed) × (count_of_added t.lines < count_of_added s.lines + conflicts)
Answers s t conflicts Paused =
    (t.answer ≡ None) × (count_of_added t.lines ≡ count_of_added s.lines + conflicts)
