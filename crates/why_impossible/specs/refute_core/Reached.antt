-- What a derivation uses: its first empty clause and, again and again, the clauses that hints name.
use Rattle.std.specs.Prelude.{◌≡◌, ℕ, ◌+◌, ◌<◌, List, [], ◌∷◌, length, get_or, Bool, true, false, if◌then◌else◌}
use Rattle.std.specs.List.{Contains}
use Rattle.cnf_core.specs.Clauses.{Formula}
use Rattle.refute_check.specs.list_laws.Lists.{is_nil}
use Rattle.refute_check.specs.declared.line.Line.{Line}
use Rattle.refute_check.specs.declared.line.Line.TheVariants.{Add, Delete}

-- the hints of the added clauses, in order, up to the first empty clause
abbrev pub hints_used : List Line → List (List ℕ)
hints_used [] = []
hints_used (Add lits hints ∷ ls) = hints ∷ (if is_nil lits then [] else hints_used ls)
hints_used (Delete ns ∷ ls) = hints_used ls

-- The numbers of the reached clauses. The formula's `size` clauses are numbered from 1, and added
-- clauses come after them.
pub data IsReached (size : ℕ) (lines : List Line) : ℕ → Type 0 where
  -- the first empty clause
  First : (n : ℕ) → n ≡ size + length (hints_used lines) → IsReached size lines n
  -- a hint of a reached clause that was added after `others` others
  Hinted : (others n : ℕ) → IsReached size lines (size + others + 1)
      → Contains (get_or (hints_used lines) others []) n → IsReached size lines n

-- the marks tell for each clause of a formula, in order, whether it is reached
pub record AreReached (f : Formula) (lines : List Line) (marks : List Bool) : Type 0 where
  pub all : length marks ≡ length f.clauses
  pub reached : (place : ℕ) → get_or marks place false ≡ true
      → IsReached (length f.clauses) lines (place + 1)
  pub every : (place : ℕ) → place < length f.clauses
      → IsReached (length f.clauses) lines (place + 1) → get_or marks place false ≡ true
