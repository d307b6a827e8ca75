-- Lines that say more than unit propagation finds.
use Rattle.std.specs.Prelude.{◌≡◌, ◌≢◌, ℕ, not, List, [], ◌∷◌, ◌++◌, map, take, filter, fold, slice_get, Contains, ℤ, neg_ℤ, Some, IfSome, ⊤}
use Rattle.std.specs.FinMap.{get}
use Rattle.std.specs.Ordering.{int_eq}
use Rattle.cnf_core.specs.Clauses.{Formula}
use Rattle.refute_check.specs.Kept.{KeptClauses}
use Rattle.refute_check.specs.Refutations.{Checking, start, state_after_line}
use Rattle.refute_check.specs.declared.line.Line.{Line}
use Rattle.refute_check.specs.declared.line.Line.TheVariants.{Add, Delete}
use Rattle.cdcl_trail.specs.Trail.{Trail}
use Rattle.cdcl_learn.specs.cdcl_clauses.Clauses.{Clause}
use Rattle.cdcl_learn.specs.cdcl_clauses.Invariants.{AreConsistent, AreRooted}
use Rattle.cdcl_learn.specs.cdcl_clauses.declared.watches.Watch.{Watch}
use Rattle.cdcl_steps.specs.Attached.{CanAssert}
use Rattle.cdcl_lines.specs.Literals.{clause_of}
use Rattle.cdcl_lines.specs.Lines.{added}
use Rattle.cdcl_lines.specs.Keeping.{Represents}

-- the literals that are true if all literals of a clause except one are false
abbrev pub others_false : List ℤ → ℤ → List ℤ
others_false literals l = map neg_ℤ (filter (λ m. not (int_eq m l)) literals)

-- a kept clause has the literal, and its other literals are false
pub record IsUnit (kept : KeptClauses) (trues : List ℤ) (l : ℤ) : Type 0 where
  pub number : ℕ
  pub clause : List ℤ
  pub there : get kept number ≡ Some clause
  pub has : Contains clause l
  pub others : (m : ℤ) → Contains clause m → m ≢ l → Contains trues (neg_ℤ m)

-- unit propagation makes these literals true in turn
abbrev pub AreUnits : KeptClauses → List ℤ → List ℤ → Type 0
AreUnits kept trues [] = ⊤
AreUnits kept trues (l ∷ ls) = IsUnit kept trues l × AreUnits kept (trues ++ l ∷ []) ls

-- all literals of a kept clause are false
pub record IsBroken (kept : KeptClauses) (trues : List ℤ) : Type 0 where
  pub number : ℕ
  pub clause : List ℤ
  pub there : get kept number ≡ Some clause
  pub all_false : (m : ℤ) → Contains clause m → Contains trues (neg_ℤ m)

-- the clause has a literal that unit propagation doesn't find: if the clause's other literals are
-- false, propagation neither makes this literal true nor falsifies a kept clause
pub record IsFresh (kept : KeptClauses) (literals : List ℤ) : Type 0 where
  pub literal : ℤ
  pub there : Contains literals literal
  pub never_true : (ls : List ℤ) → AreUnits kept (others_false literals literal) ls
      → Contains (others_false literals literal ++ ls) literal → ⊥
  pub no_conflict : (ls : List ℤ) → AreUnits kept (others_false literals literal) ls
      → IsBroken kept (others_false literals literal ++ ls) → ⊥

-- an added clause that isn't empty is fresh
abbrev pub IsFreshLine : KeptClauses → Line → Type 0
IsFreshLine kept (Add [] hints) = ⊤
IsFreshLine kept (Add (l ∷ ls) hints) = IsFresh kept (l ∷ ls)
IsFreshLine kept (Delete ns) = ⊤

-- each line is fresh over the clauses kept just before it
abbrev pub AreFresh : Formula → List Line → Type 0
AreFresh f lines =
    (k : ℕ) → IfSome (slice_get lines k)
    (λ l. IsFreshLine (fold state_after_line (start f) (take k lines)).kept l)

-- fresh lines with one more fresh line are fresh
abbrev pub FreshGoesOn : Type 0
FreshGoesOn =
    (f : Formula) (lines : List Line) (line : Line) → AreFresh f lines
    → IsFreshLine (fold state_after_line (start f) lines).kept line
    → AreFresh f (lines ++ line ∷ [])

-- a clause that is to be asserted is fresh
abbrev pub AssertedIsFresh : Type 0
AssertedIsFresh =
    (t : Trail) (cs : List Clause) (ws : List (List Watch)) (s : Checking) (literals : List ℕ)
    (asserted beside : ℕ) → AreConsistent t cs ws → AreRooted t cs
    → Represents cs s → CanAssert t literals asserted beside → IsFresh s.kept (clause_of literals)

-- no kept clause has all its literals in a fresh clause
abbrev pub FreshSaysMore : Type 0
FreshSaysMore =
    (kept : KeptClauses) (literals : List ℤ) → IsFresh kept literals
    → (number : ℕ) (clause : List ℤ) → get kept number ≡ Some clause
    → ((m : ℤ) → Contains clause m → Contains literals m) → ⊥

-- a line that adds a fresh clause is fresh
abbrev pub AddedIsFresh : Type 0
AddedIsFresh =
    (kept : KeptClauses) (literals hints : List ℕ) → IsFresh kept (clause_of literals)
    → IsFreshLine kept (added literals hints)
