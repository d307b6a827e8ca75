-- What the reached clauses mean.
use Rattle.std.specs.Prelude.{ℕ, ◌+◌, ◌<◌, List, [], length, map, get_or}
use Rattle.std.specs.List.{Contains}
use Rattle.cnf_core.specs.Clauses.{Formula, IsUnsatisfiable}
use Rattle.refute_check.specs.Refutations.{IsClosed}
use Rattle.refute_check.specs.declared.line.Line.{Line}
use Rattle.why_impossible.specs.refute_core.Reached.{IsReached}

-- if a derivation is closed, the clauses of the formula that it reaches are unsatisfiable alone
abbrev pub ReachedAreUnsatisfiable : Type 0
ReachedAreUnsatisfiable =
    (f : Formula) (lines : List Line) (places : List ℕ) → IsClosed f lines
    → ((place : ℕ) → place < length f.clauses → IsReached (length f.clauses) lines (place + 1)
    → Contains places place)
    → IsUnsatisfiable (map (λ place. get_or f.clauses place []) places)
