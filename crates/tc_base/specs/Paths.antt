-- Paths of threads.
use Rattle.std.specs.Prelude.{ℕ, Bool, List, [], ◌∷◌, Option, Some, None, if◌then◌else◌, bytes_eq}
use Rattle.tc_base.specs.Names.{Name}
use Rattle.tc_base.specs.declared.failing.Failing.{Failing}
use Rattle.tc_base.specs.declared.failing.Failing.TheVariants.{Thread, Deadlock}

-- the path of a thread
pub record Path : Type 0 where
  -- the outcomes of its branches, in order
  pub outcomes : List Bool
  -- how many instructions the thread has executed
  pub steps : ℕ

pub record ThreadPath : Type 0 where
  pub name : Name
  pub path : Path

-- the place in the log of the thread that failed, if one did
abbrev pub place_in : Failing → Option ℕ
place_in (Thread k) = Some k
place_in Deadlock = None

-- the first path listed under a name
abbrev pub path_under : Name → List ThreadPath → Option Path
path_under name [] = None
path_under name (t ∷ ts) = if bytes_eq name t.name then Some t.path else path_under name ts
