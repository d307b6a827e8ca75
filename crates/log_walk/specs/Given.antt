-- The result of a search for the next log.
use Rattle.std.specs.Prelude.{◌≡◌, ℕ, ◌<◌, ◌≤◌, ◌⊎◌, List, length, Bool, true, Option, Some, None, IfSome, nat_lt}
use Rattle.std.specs.List.{All, list_any}
use Rattle.tc_base.specs.Paths.{ThreadPath}
use Rattle.tc_limits.specs.declared.limits.TheConstants.{DEPTH, STEPS, THREADS}
use Rattle.tc_code.specs.Code.{Code}
use Rattle.thread_paths.specs.pure_turns.Live.{Liveness}
use Rattle.log_walk.specs.Order.{are_from, are_to_come}
use Rattle.log_walk.specs.Rest.{all, MakeUp}
use Rattle.log_walk.specs.Needless.{SomeNeedless}
use Rattle.log_walk.specs.declared.bounds.Bounds.{Bounds}
use Rattle.log_walk.specs.declared.bounds.LeftOut.{LeftOut}

-- the threads found, if any, and what the search left out
pub record Given : Type 0 where
  pub threads : Option (List ThreadPath)
  pub out : LeftOut

abbrev pub has_many_outcomes : ℕ → ThreadPath → Bool
has_many_outcomes most t = nat_lt most (length t.path.outcomes)

abbrev pub has_many_steps : ThreadPath → Bool
has_many_steps t = nat_lt STEPS t.path.steps

abbrev pub is_deep : ThreadPath → Bool
is_deep t = nat_lt DEPTH (length t.name)

-- threads are left out, and the report says why: one has too many outcomes, more steps than a log
-- holds or too long a name, or there are more threads than there is room for
pub data IsLeftOut (most room : ℕ) (out : LeftOut) (ts : List ThreadPath) : Type 0 where
  Outcomes : out.outcomes ≡ true → list_any (has_many_outcomes most) ts ≡ true
      → IsLeftOut most room out ts
  Steps : out.steps ≡ true → list_any has_many_steps ts ≡ true → IsLeftOut most room out ts
  Depth : out.depth ≡ true → list_any is_deep ts ≡ true → IsLeftOut most room out ts
  Threads : out.threads ≡ true → room < length ts → IsLeftOut most room out ts

-- a thread is within the limits of a log and the bound on outcomes
pub record IsWithin (most : ℕ) (t : ThreadPath) : Type 0 where
  pub outcomes : length t.path.outcomes ≤ most
  pub steps : t.path.steps ≤ STEPS
  pub depth : length t.name ≤ DEPTH

-- threads make up a log within the bounds
pub record IsOne (code : Code) (bounds : Bounds) (ts : List ThreadPath) : Type 0 where
  pub makes_up : MakeUp code bounds.kind (all code bounds.kind) ts
  pub few : length ts ≤ THREADS
  pub within : All (IsWithin bounds.most) ts

-- threads were found, and they are these or come before them
abbrev pub AreNotAfter : Option (List ThreadPath) → List ThreadPath → Type 0
AreNotAfter None us = ⊥
AreNotAfter (Some ts) us = are_from ts us ≡ true

-- the search found the first threads to come that make up a log, apart from those left out and some
-- with a needless path
pub record IsFirst (code : Code) (live : Liveness) (bounds : Bounds)
    (last : Option (List ThreadPath)) (given : Given) : Type 0 where
  pub is_one : IfSome given.threads (IsOne code bounds)
  pub to_come : IfSome given.threads (λ ts. are_to_come last ts ≡ true)
  pub others : (us : List ThreadPath) → MakeUp code bounds.kind (all code bounds.kind) us
      → are_to_come last us ≡ true
      → AreNotAfter given.threads us
      ⊎ (IsLeftOut bounds.most THREADS given.out us
      ⊎ SomeNeedless code live bounds.kind (all code bounds.kind) us)
