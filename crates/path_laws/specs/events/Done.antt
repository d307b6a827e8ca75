-- The events, regions and sleeps of paths in a history.
use Rattle.std.specs.Prelude.{◌≡◌, ℕ, ◌<◌, ◌≤◌, ℤ, Option, Some, List, [], ◌∷◌, ◌++◌}
use Rattle.std.specs.List.{filter_map}
use Rattle.path_walk.specs.tc_base.Names.{Name}
use Rattle.path_walk.specs.tc_base.declared.request.Request.{Request}
use Rattle.path_walk.specs.tc_base.declared.request.Request.TheVariants.{BeginWait}
use Rattle.run_follows.specs.run_history.History.{Deed, Did}
use Rattle.run_follows.specs.run_history.Last.{waits_by}
use Rattle.path_walk.specs.declared.event.EventKind.{EventKind}
use Rattle.path_walk.specs.declared.event.Region.{Region}
use Rattle.path_walk.specs.declared.event.Sleep.{Sleep}
use Rattle.path_laws.specs.Deeds.{kind_of}

-- the history has step number k of the thread, and it is an event of this kind
pub record IsDoneIn (h : List Deed) (n : Name) (k : ℕ) (asked : EventKind) : Type 0 where
  pub older : List Deed
  pub newer : List Deed
  pub request : Request
  pub took : ℤ
  pub other : Option Name
  pub there : h ≡ older ++ Did n k request took other ∷ newer
  pub asks : kind_of request other ≡ Some asked

-- a region is open after k steps: they have acquired its mutex and not released it
pub record IsOpenAfter (k : ℕ) (r : Region) : Type 0 where
  pub begun : r.«from» < k
  pub lasts : (j : ℕ) → r.to ≡ Some j → k ≤ j

-- a thread's sleep has begun, and nothing has ended it
pub record IsAsleepIn (h : List Deed) (n : Name) (s : Sleep) : Type 0 where
  pub older : List Deed
  pub newer : List Deed
  pub took : ℤ
  pub other : Option Name
  pub there : h ≡ older ++ Did n s.step (BeginWait s.condition s.mutex) took other ∷ newer
  pub lasts : filter_map (waits_by s.condition n) newer ≡ []
