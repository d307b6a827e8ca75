-- Histories along the paths of a log.
use Rattle.std.specs.Prelude.{◌≡◌, ℕ, true, Some, List, length, slice_get}
use Rattle.std.specs.FinMap as fin
use Rattle.path_walk.specs.run_log.Logs.{Log}
use Rattle.path_walk.specs.tc_base.Names.{Name}
use Rattle.path_walk.specs.tc_base.States.{Local}
use Rattle.path_walk.specs.tc_code.Code.{Code}
use Rattle.run_follows.specs.run_history.History.{Deed}
use Rattle.run_follows.specs.run_history.Locals.{locals_in}
use Rattle.run_follows.specs.run_history.Told.{is_thread_in, steps_in, failed_in}
use Rattle.run_follows.specs.Machine.{Machine}
use Rattle.run_follows.specs.Follow.{AllFollow}
use Rattle.path_walk.specs.Fits.{Fits}
use Rattle.path_walk.specs.Paths.{Walk, paths_of}
use Rattle.path_laws.specs.Prefixes.{IsOnPath}
use Rattle.path_laws.specs.Setting.{Setting}

-- every thread of a history has followed a prefix of its path in a log
abbrev pub AreOnPathsIn : Code → Log → List Deed → Type 0
AreOnPathsIn code log h =
    (n : Name) (t : Local) → fin.get (locals_in code h) n ≡ Some t → IsOnPath log (failed_in h) n t

-- a history along the paths: each deed may follow those before it, and no thread leaves its path
pub record IsAlongPaths {B : Type 0} (m : Machine B) (log : Log) (h : List Deed) : Type 0 where
  pub follow : AllFollow m.ops.buffered m.bound m.code h
  pub on : AreOnPathsIn m.code log h

-- a history along the paths of a log that fits
pub record HistoryAlong {B : Type 0} (s : Setting B) : Type 0 where
  pub deeds : List Deed
  pub fits : Fits s.code s.log
  pub along : IsAlongPaths s.machine s.log deeds

-- w is the walk at index j of the log's paths
abbrev pub IsThread : Code → Log → ℕ → Walk → Type 0
IsThread code log j w = slice_get (paths_of code log).threads j ≡ Some w

-- a thread of the paths: its index and its walk
pub record PathThread (code : Code) (log : Log) : Type 0 where
  pub index : ℕ
  pub walk : Walk
  pub open walk use *
  pub there : IsThread code log index walk

-- the thread with this walk at an index of the paths
abbrev pub path_thread : {code : Code} {log : Log} (j : ℕ) (w : Walk) → IsThread code log j w
    → PathThread code log
path_thread j w there = record { index = j; walk = w; there = there }

-- the name belongs to a thread of the paths
pub record IsNameOfThread (code : Code) (log : Log) (n : Name) : Type 0 where
  pub thread : PathThread code log
  pub open thread use {index, walk, there}
  pub name_is : thread.name ≡ n

-- a thread of the paths has done all its steps
abbrev pub HasDoneAll : List Deed → Walk → Type 0
HasDoneAll h w = steps_in h w.name ≡ length w.places

-- every thread of the paths has done all its steps
abbrev pub AllHaveDone : Code → Log → List Deed → Type 0
AllHaveDone code log h = (t : PathThread code log) → HasDoneAll h t.walk

-- every thread of the paths exists in the history
abbrev pub AllAreThere : Code → Log → List Deed → Type 0
AllAreThere code log h = (t : PathThread code log) → is_thread_in h t.name ≡ true
