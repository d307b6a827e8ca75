-- The result of a search for a path.
use Rattle.std.specs.Prelude.{◌≡◌, ◌<◌, ◌≤◌, ◌⊎◌, length, true, Option, Some, None, IfSome}
use Rattle.tc_code.specs.tc_base.Paths.{Path}
use Rattle.tc_limits.specs.declared.limits.TheConstants.{STEPS}
use Rattle.tc_code.specs.Code.{Code}
use Rattle.slot_liveness.specs.pure_turns.Live.{Liveness}
use Rattle.thread_paths.specs.Ends.{MayTake}
use Rattle.thread_paths.specs.Order.{comes_from}
use Rattle.thread_paths.specs.Needless.{IsNeedless}
use Rattle.thread_paths.specs.declared.aim.Scope.{Scope}
use Rattle.thread_paths.specs.declared.found.Cut.{Cut}

-- the path that was found, if any, and what the search left out
pub record Found : Type 0 where
  pub path : Option Path
  pub cut : Cut

-- a path is left out, and the cut says why: too many outcomes, or more steps than a log holds
abbrev pub IsLeftOut : Scope → Cut → Path → Type 0
IsLeftOut scope cut q =
    ((scope.most < length q.outcomes) × (cut.outcomes ≡ true))
    ⊎ ((STEPS < q.steps) × (cut.steps ≡ true))

-- a path was found, and it is this one or comes before it
abbrev pub IsNotAfter : Option Path → Path → Type 0
IsNotAfter None q = ⊥
IsNotAfter (Some p) q = comes_from p q ≡ true

-- the search found the first path from a position on that the thread may take, apart from those
-- left out and some that are needless
pub record IsFirst (code : Code) (live : Liveness) (scope : Scope) (start : Path)
    (found : Found) : Type 0 where
  pub takes : IfSome found.path (MayTake code scope.function scope.aim)
  pub within : IfSome found.path (λ p. comes_from start p ≡ true)
  pub few : IfSome found.path (λ p. (length p.outcomes ≤ scope.most) × (p.steps ≤ STEPS))
  pub others : (q : Path) → MayTake code scope.function scope.aim q → comes_from start q ≡ true
      → IsNotAfter found.path q
      ⊎ (IsLeftOut scope found.cut q ⊎ IsNeedless code live scope.function q)
