-- A search below the first threads of a log.
use Rattle.std.specs.Prelude.{◌≡◌, ℕ, ◌≤◌, ◌⊎◌, List, [], ◌∷◌, ◌++◌, length, Bool, true, false, ◌&&◌, ◌||◌, ◌<◌, drop, slice_get, Option, option_map, option_and_then, IfSome}
use Rattle.std.specs.List.{All}
use Rattle.tc_base.specs.Names.{Name}
use Rattle.tc_limits.specs.declared.limits.TheConstants.{DEPTH}
use Rattle.tc_base.specs.Paths.{Path, ThreadPath}
use Rattle.tc_code.specs.Code.{Code}
use Rattle.thread_paths.specs.path_walk.Steps.{Onward}
use Rattle.thread_paths.specs.pure_turns.Live.{Liveness}
use Rattle.thread_paths.specs.Ends.{MayTake}
use Rattle.thread_paths.specs.Order.{comes_from}
use Rattle.thread_paths.specs.declared.aim.Scope.{Scope}
use Rattle.thread_paths.specs.declared.found.Cut.{Cut}
use Rattle.log_walk.specs.Order.{are_from, are_to_come}
use Rattle.log_walk.specs.Rest.{Rest, MakeUp, aim_of}
use Rattle.log_walk.specs.Given.{IsLeftOut, IsWithin}
use Rattle.log_walk.specs.Needless.{SomeNeedless}
use Rattle.log_walk.specs.declared.bounds.Bounds.{Bounds}
use Rattle.log_walk.specs.declared.bounds.LeftOut.{LeftOut}
use Rattle.log_walk.specs.declared.rest.Awaited.{Awaited}
use Rattle.log_walk.specs.declared.told.Position.{Position}

-- the position of a thread: its place and the outcomes that are left
abbrev pub position_of : List Bool → Position → Onward
position_of outcomes at = record { place = at.place; outcomes = drop at.used outcomes }

-- limits that were reported as reached stay reported
pub record IsKept (before after : LeftOut) : Type 0 where
  pub outcomes : before.outcomes ≡ true → after.outcomes ≡ true
  pub steps : before.steps ≡ true → after.steps ≡ true
  pub depth : before.depth ≡ true → after.depth ≡ true
  pub threads : before.threads ≡ true → after.threads ≡ true

-- what was left out, including what a search for a path left out
abbrev pub with_cut : LeftOut → Cut → LeftOut
with_cut out cut =
    record out { outcomes = out.outcomes || cut.outcomes; steps = out.steps || cut.steps }

-- the scope of the search for an awaited thread's path
abbrev pub scope_of : Bounds → Rest → Awaited → Scope
scope_of bounds rest next = record {
  function = next.function;
  aim = aim_of bounds.kind rest.ends next.end;
  most = bounds.most;
}

-- whether a thread of this name may be added; if not, the limit in its way is reported
abbrev pub IsOpen : Name → ℕ → LeftOut → Bool → Type 0
IsOpen n room out true = (1 ≤ room) × (length n ≤ DEPTH)
IsOpen n room out false =
    ((room ≡ 0) × (out.threads ≡ true)) ⊎ ((DEPTH < length n) × (out.depth ≡ true))

-- the first thread of the log given last, and below it the other threads
abbrev pub first_of : Option (List ThreadPath) → Option ThreadPath
first_of last = option_and_then (λ ts. slice_get ts 0) last

abbrev pub others_of : Option (List ThreadPath) → Option (List ThreadPath)
others_of last = option_map (drop 1) last

-- a test for the threads to look for
abbrev pub Wanted : Type 0
Wanted = List ThreadPath → Bool

-- whether there is a first thread, and its path is this one or a later one
abbrev pub begin_from : Path → Wanted
begin_from start [] = false
begin_from start (t ∷ ts) = comes_from start t.path

-- whether there is a first thread, with this path, and the others come after those given last
abbrev pub behind : Path → Option (List ThreadPath) → Wanted
behind p last [] = false
behind p last (t ∷ ts) = (comes_from p t.path && comes_from t.path p) && are_to_come last ts

-- threads are left out for a limit, or since some path is needless
abbrev pub AreExcused : Code → Liveness → Bounds → Rest → ℕ → LeftOut → List ThreadPath → Type 0
AreExcused code live bounds rest room out us =
    IsLeftOut bounds.most room out us ⊎ SomeNeedless code live bounds.kind rest us

module _ (code : Code) (live : Liveness) (bounds : Bounds) (rest : Rest) (wanted : Wanted)
    (room : ℕ) (out : LeftOut) where
  -- these are the first threads that complete the log and pass the test
  pub record AreFirst (ts : List ThreadPath) : Type 0 where
    pub make_up : MakeUp code bounds.kind rest ts
    pub meets : wanted ts ≡ true
    pub fits : length ts ≤ room
    pub within : All (IsWithin bounds.most) ts
    pub others : (us : List ThreadPath) → MakeUp code bounds.kind rest us → wanted us ≡ true
        → (are_from ts us ≡ true) ⊎ AreExcused code live bounds rest room out us

  -- no threads complete the log and pass the test, except those left out
  abbrev pub AreNone : Type 0
  AreNone =
      (us : List ThreadPath) → MakeUp code bounds.kind rest us → wanted us ≡ true
      → AreExcused code live bounds rest room out us

-- an awaited thread may take a path, and is within the bounds with it
pub record IsTaken (code : Code) (bounds : Bounds) (rest : Rest) (next : Awaited)
    (p : Path) : Type 0 where
  pub may : MayTake code next.function (aim_of bounds.kind rest.ends next.end) p
  pub within : IsWithin bounds.most (record { name = next.name; path = p })

-- the threads given last, if there are any, make up the rest within the bounds
abbrev pub CanFollow : Code → Bounds → Rest → Option (List ThreadPath) → Type 0
CanFollow code bounds rest last =
    IfSome last (λ ts. MakeUp code bounds.kind rest ts × All (IsWithin bounds.most) ts)

-- some threads were added after those before
pub record IsAdded (AreThese : List ThreadPath → Type 0) (before after : List ThreadPath)
    : Type 0 where
  pub added : List ThreadPath
  pub is : after ≡ before ++ added
  pub first : AreThese added

-- none were added, for this reason
pub record IsSame (Reason : Type 0) (before after : List ThreadPath) : Type 0 where
  pub same : after ≡ before
  pub none : Reason

-- the first threads were added if there are some, and else none
abbrev pub IsEnd : Code → Liveness → Bounds → Rest → Wanted → ℕ → (before after : List ThreadPath)
    → LeftOut → Bool → Type 0
IsEnd code live bounds rest wanted room before after out true =
    IsAdded (AreFirst code live bounds rest wanted room out) before after
IsEnd code live bounds rest wanted room before after out false =
    IsSame (AreNone code live bounds rest wanted room out) before after
