-- Runs that fail with as few steps as possible.
use Rattle.std.specs.Prelude.{◌≡◌, Bool, false, List, ◌∷◌, ◌++◌, Some}
use Rattle.run_follows.specs.tc_base.Paths.{Path}
use Rattle.run_follows.specs.tc_base.Names.{Name}
use Rattle.run_follows.specs.tc_code.Code.{Code}
use Rattle.run_follows.specs.store_buffers.Pending.{Binding}
use Rattle.run_follows.specs.run_history.History.{Deed, Did, Drained, same}
use Rattle.run_follows.specs.run_history.Told.{failed_in}
use Rattle.run_follows.specs.Follow.{AllFollow}
use Rattle.run_follows.specs.Logged.{path_told}
use Rattle.least_runs.specs.Unused.{comes_out}

abbrev pub is_by : Name → Deed → Bool
is_by f (Did n k r took other) = same n f
is_by f (Drained n k c v) = same n f

-- no step of a thread other than f can be left out
abbrev pub IsLeast : Name → List Deed → Type 0
IsLeast f h =
    (older newer : List Deed) (d : Deed) → h ≡ older ++ d ∷ newer → is_by f d ≡ false
    → comes_out d newer ≡ false

-- the thread exists in the history, and its outcomes begin with those of p
pub record Begins (code : Code) (h : List Deed) (n : Name) (p : Path) : Type 0 where
  pub path : Path
  pub there : path_told code h n ≡ Some path
  pub later : List Bool
  pub outcomes : path.outcomes ≡ p.outcomes ++ later

-- the outcomes of each thread of g are a prefix of its outcomes in h
abbrev pub IsPart : Code → List Deed → List Deed → Type 0
IsPart code g h = (n : Name) (p : Path) → path_told code g n ≡ Some p → Begins code h n p

-- a run is part of h, fails in the same thread, and no step of another thread can be left out of it
pub record HasLeast (buffered : Bool) (bound : Binding) (code : Code) (h : List Deed)
    (f : Name) : Type 0 where
  pub deeds : List Deed
  pub run : AllFollow buffered bound code deeds
  pub fails : failed_in deeds ≡ Some f
  pub least : IsLeast f deeds
  pub part : IsPart code deeds h
  -- the failing thread has the same path in both
  pub failing : path_told code deeds f ≡ path_told code h f
