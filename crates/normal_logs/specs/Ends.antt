-- How the paths of a log end.
use Rattle.std.specs.Prelude.{◌≡◌, ◌+◌, ◌<◌, ℕ, length}
use Rattle.std.specs.List.{Contains}
use Rattle.tc_record.specs.run_log.Logs.{Log}
use Rattle.tc_record.specs.tc_base.Names.{Name, child}
use Rattle.tc_record.specs.tc_code.Code.{Code}
use Rattle.tc_record.specs.path_walk.Paths.{Walk}
use Rattle.tc_record.specs.path_walk.declared.event.Event.{Event}
use Rattle.tc_record.specs.path_walk.declared.event.EventKind.{EventKind}
use Rattle.tc_record.specs.path_walk.declared.event.EventKind.TheVariants.{Store, Exchange, Unlock, Sleep}
use Rattle.tc_record.specs.path_walk.declared.event.EventKind.TheVariants.{Signal, Broadcast, Create, Exit}
use Rattle.tc_record.specs.path_walk.declared.event.Link.{Link}
use Rattle.tc_record.specs.path_walk.declared.event.Region.{Region}
use Rattle.tc_record.specs.path_laws.events.Done.{IsOpenAfter}
use Rattle.tc_record.specs.path_laws.history.Along.{IsThread}

-- the last step of a path is an event of this kind
pub record EndsWith (w : Walk) (asked : EventKind) : Type 0 where
  pub event : Event
  pub there : Contains w.events event
  pub asks : event.kind ≡ asked
  pub last : event.step + 1 ≡ length w.places

-- a thread holds a mutex at the end of its path
pub record HoldsAtEnd (w : Walk) (m : ℕ) : Type 0 where
  pub region : Region
  pub there : Contains w.regions region
  pub of : region.mutex ≡ m
  pub lasts : IsOpenAfter (length w.places) region

module _ (code : Code) (log : Log) where
  -- some path joins the named thread
  pub record IsJoined (n : Name) : Type 0 where
    pub place : ℕ
    pub walk : Walk
    pub there : IsThread code log place walk
    pub join : Link
    pub joins : Contains walk.joins join
    pub name : n ≡ child walk.name join.child

  -- the named thread does at least one step
  pub record Acts (n : Name) : Type 0 where
    pub place : ℕ
    pub walk : Walk
    pub there : IsThread code log place walk
    pub name : walk.name ≡ n
    pub steps : 0 < length walk.places

  -- another thread may need an event of this kind as the last step of the named thread
  abbrev pub IsUsed : Name → EventKind → Type 0
  IsUsed n Store = Unit {0}
  IsUsed n Exchange = Unit {0}
  IsUsed n (Unlock m) = Unit {0}
  IsUsed n (Sleep c m) = Unit {0}
  IsUsed n (Signal c) = Unit {0}
  IsUsed n (Broadcast c) = Unit {0}
  IsUsed n (Create k) = Acts (child n k)
  IsUsed n Exit = IsJoined n
  IsUsed n _ = ⊥

  -- a path ends with a step that another thread may need
  pub record EndsUsed (w : Walk) : Type 0 where
    pub asked : EventKind
    pub ends : EndsWith w asked
    pub used : IsUsed w.name asked

  -- some thread holds the mutex at the end of its path
  pub record IsHeldAtEnd (m : ℕ) : Type 0 where
    pub place : ℕ
    pub walk : Walk
    pub there : IsThread code log place walk
    pub holds : HoldsAtEnd walk m

  -- no path of the named thread ends with an exit
  abbrev pub NeverExits : Name → Type 0
  NeverExits n =
      (j : ℕ) (w : Walk) → IsThread code log j w → w.name ≡ n → EndsWith w Exit → ⊥
