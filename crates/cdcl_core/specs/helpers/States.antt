-- How a search is stored in memory, and its invariants from one conflict to the next.
use Rattle.std.specs.Prelude.{◌≡◌, ◌≢◌, ℕ, ◌+◌, ◌*◌, ◌<◌, ◌≤◌, Bool, true, false, List, [], length, take, slice_index_or, slice_get, Contains, Some}
use Rattle.std.specs.Prelude.{None, IfSome, AllPairs, count_by, All, ℤ}
use Rattle.std.specs.List.{fold}
use Rattle.cnf_core.specs.Clauses.{Formula}
use Rattle.cnf_core.specs.declared.cnf.TheConstants.{LIMIT}
use Rattle.refute_check.specs.Refutations.{opening, keep}
use Rattle.refute_check.specs.declared.line.Line.{Line}
use Rattle.cdcl_trail.specs.Trail.{Trail, IsNoReason}
use Rattle.cdcl_clauses.specs.Clauses.{Clause, at}
use Rattle.cdcl_clauses.specs.Invariants.{AreConsistent, AreRooted}
use Rattle.cdcl_learn.specs.Shown.{Refutes, Shows}
use Rattle.cdcl_steps.specs.Descents.{IsFull}
use Rattle.cdcl_steps.specs.Loads.{IsAtStart}
use Rattle.cdcl_steps.specs.declared.loading.Loaded.{Loaded}
use Rattle.cdcl_steps.specs.declared.loading.Loaded.TheVariants.{Taken, Refuted}
use Rattle.cdcl_lines.specs.Keeping.{Represents, KeepsAll}
use Rattle.cdcl_lines.specs.Fresh.{AreFresh}
use Rattle.cdcl_core.specs.Searches.{checked, adds, count_of_added, count_of_deleted, DeletesFew, IsSolution}
use Rattle.tc_limits.specs.declared.limits.TheConstants.{BUDGET}
use Rattle.cdcl_core.specs.declared.state.State.{State}
use Rattle.cdcl_core.specs.declared.turns.Step.{Step}
use Rattle.cdcl_core.specs.declared.turns.Step.TheVariants as steps

-- no variable is open, and all is propagated
pub record IsComplete (t : Trail) : Type 0 where
  pub full : IsFull t
  pub propagated : t.propagated ≡ length t.literals

-- after `n` added and `d` deleted clauses one more may be added; below, the bound once it was
abbrev pub HasBound : ℕ → ℕ → ℕ → Type 0
HasBound vars n d = n ≤ 2 * (d + vars + 4000) + 1

abbrev pub HasNearlyBound : ℕ → ℕ → ℕ → Type 0
HasNearlyBound vars n d = n ≤ 2 * (d + vars + 4001) + 1

-- the number of kept clauses
abbrev pub kept_in : List Clause → ℕ
kept_in cs = count_by (λ c. c.kept) cs

-- the kept clauses, the lines and the counts agree
pub record BelongTogether (f : Formula) (cs : List Clause) (lines : List Line)
    (n d : ℕ) : Type 0 where
  pub few : f.vars < LIMIT
  pub given : length f.clauses < LIMIT
  pub count : length cs ≡ length f.clauses + n
  pub keeps : KeepsAll f.clauses cs
  pub represents : Represents cs (checked f lines)
  pub vars : (checked f lines).vars ≡ f.vars
  pub unclosed : (checked f lines).closed ≡ false
  pub counted : n ≡ count_of_added lines
  pub not_empty : n ≡ count_by adds lines
  pub many : n ≤ BUDGET
  pub deleted : d ≡ count_of_deleted lines
  pub half : 2 * d ≤ n
  pub bound : HasNearlyBound f.vars n d
  pub kept : kept_in cs + d ≡ length cs
  pub short : length lines ≤ n + d
  pub fresh : AreFresh f lines
  pub few_deleted : DeletesFew f lines

-- a search that has no answer yet
pub record IsLive (s : State) : Type 0 where
  pub sound : AreConsistent s.trail s.clauses s.watches
  pub rooted : AreRooted s.trail s.clauses
  pub variables : s.trail.variables ≡ s.formula.vars
  pub activity : s.activity ≡ s.formula.vars
  pub agree : BelongTogether s.formula s.clauses s.derivation s.added s.deleted

-- the derivation is closed
pub record Ended (f : Formula) (lines : List Line) (n : ℕ) : Type 0 where
  pub passes : (checked f lines).fault ≡ None
  pub closed : (checked f lines).closed ≡ true
  pub counted : n ≡ count_of_added lines
  pub many : n ≤ BUDGET
  pub fresh : AreFresh f lines
  pub few_deleted : DeletesFew f lines

abbrev pub HasEnded : State → Type 0
HasEnded s = Ended s.formula s.derivation s.added

-- the hints prove the empty clause, from clauses that agree with the lines
pub record CanConclude (s : State) (hints : List ℕ) : Type 0 where
  pub clauses : List Clause
  pub agree : BelongTogether s.formula clauses s.derivation s.added s.deleted
  pub bound : HasBound s.formula.vars s.added s.deleted
  pub shown : Shows clauses [] hints

-- the same formula, lines and counts
pub record IsAsFar (s t : State) : Type 0 where
  pub formula : t.formula ≡ s.formula
  pub derivation : t.derivation ≡ s.derivation
  pub added : t.added ≡ s.added
  pub deleted : t.deleted ≡ s.deleted

-- the same formula, and `n` more lines that add a clause
pub record IsFurther (s t : State) (n : ℕ) : Type 0 where
  pub formula : t.formula ≡ s.formula
  pub derivation : take (length s.derivation) t.derivation ≡ s.derivation
  pub longer : length s.derivation ≤ length t.derivation
  pub added : t.added ≡ s.added + n

-- fewer than `n` more lines that add a clause
pub record IsShort (s t : State) (n : ℕ) : Type 0 where
  pub count : ℕ
  pub few : count < n
  pub further : IsFurther s t count

-- what `n` turns of a search lead to
abbrev pub ComesTo : State → State → ℕ → Step → Type 0
ComesTo s t n steps.Learnt = IsLive t × IsFurther s t n
ComesTo s t n steps.Closed = HasEnded t × IsShort s t n
ComesTo s t n (steps.Full values) = IsLive t × IsShort s t n × IsSolution t.formula values.items

-- each clause has a literal
abbrev pub HaveLiterals : List (List ℤ) → Type 0
HaveLiterals clauses = (k : ℕ) → IfSome (slice_get clauses k) (λ c. c ≢ [])

-- the clause at a place is empty
abbrev pub IsEmptyAt : List (List ℤ) → ℕ → Type 0
IsEmptyAt clauses k = slice_get clauses k ≡ Some []

-- the first `n` clauses are loaded
pub record IsLoaded (s : State) (n : ℕ) : Type 0 where
  pub sound : AreConsistent s.trail s.clauses s.watches
  pub start : IsAtStart s.trail
  pub variables : s.trail.variables ≡ s.formula.vars
  pub activity : s.activity ≡ s.formula.vars
  pub few : s.formula.vars < LIMIT
  pub given : length s.formula.clauses < LIMIT
  pub count : length s.clauses ≡ n
  pub keeps : KeepsAll (take n s.formula.clauses) s.clauses
  pub represents : Represents s.clauses
      (fold keep (opening s.formula.vars) (take n s.formula.clauses))
  pub no_lines : s.derivation ≡ []
  pub none_added : s.added ≡ 0
  pub none_deleted : s.deleted ≡ 0

-- true literals stay true, and clauses stay
pub record Grows (s t : State) : Type 0 where
  pub literals : (x : ℕ) → Contains s.trail.literals x → Contains t.trail.literals x
  pub clauses : take (length s.clauses) t.clauses ≡ s.clauses

-- the clause at a place was taken, and unit clauses are still true; or it was refuted
abbrev pub LoadsOne : State → State → ℕ → Loaded → Type 0
LoadsOne s t place Taken = Grows s t × (AreRooted s.trail s.clauses → AreRooted t.trail t.clauses)
LoadsOne s t place Refuted = Grows s t × Refutes t.clauses t.trail.literals place

-- a search at its beginning, which may have ended already
abbrev pub IsBegun : Bool → State → Type 0
IsBegun true s = HasEnded s
IsBegun false s = IsLive s

-- a learnt clause that is kept and isn't a reason
pub record MayGo (s : State) (k : ℕ) : Type 0 where
  pub learnt : length s.formula.clauses ≤ k
  pub kept : (at s.clauses k).kept ≡ true
  pub no_reason : IsNoReason s.trail k

-- such clauses, in order
pub record MayAllGo (s : State) (ks : List ℕ) : Type 0 where
  pub each : All (MayGo s) ks
  pub rise : AllPairs (λ i k. i < k) ks

-- each of the `n` clauses that is a reason is marked
pub record MarksReasons (t : Trail) (n : ℕ) (marks : List Bool) : Type 0 where
  pub size : length marks ≡ n
  pub few : count_by (λ b. b) marks ≤ length t.literals
  pub marked : (p k : ℕ) → p < length t.literals → slice_index_or t.reasons p None ≡ Some k
      → slice_index_or marks k false ≡ true

-- each learnt clause that is kept is marked
abbrev pub NoneMayGo : State → List Bool → Type 0
NoneMayGo s marks =
    (k : ℕ) → length s.formula.clauses ≤ k → k < length s.clauses → (at s.clauses k).kept ≡ true
    → slice_index_or marks k false ≡ true
