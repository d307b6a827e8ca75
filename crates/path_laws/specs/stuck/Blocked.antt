-- What blocks a thread in a deadlock, by its path.
use Rattle.std.specs.Prelude.{◌≡◌, ℕ, ◌+◌, ◌-◌, List, length, Some, None, slice_get}
use Rattle.path_walk.specs.tc_base.declared.request.Request.{Request}
use Rattle.path_walk.specs.tc_base.declared.request.Request.TheVariants.{Acquire, EndWait, Await}
use Rattle.path_walk.specs.tc_code.Code.{Code}
use Rattle.run_follows.specs.run_history.History.{Deed}
use Rattle.run_follows.specs.run_history.Locals.{asks_next}
use Rattle.run_follows.specs.blocked.Stuck.{IsBlockedIn}
use Rattle.path_walk.specs.Paths.{Walk}
use Rattle.path_walk.specs.declared.event.Blocked.{Blocked}
use Rattle.path_walk.specs.declared.event.Blocked.TheVariants.{Lock, Wake, Join}
use Rattle.path_walk.specs.declared.event.Sleep.{Sleep}

-- the request of a blocked thread
abbrev pub asked_at : Blocked → Request
asked_at (Lock m) = Acquire m
asked_at (Wake c m k) = EndWait c m
asked_at (Join k) = Await k

-- the walk says what blocks the thread; the thread has that request next, and it is blocked
pub record IsBlockedAt (code : Code) (h : List Deed) (w : Walk) (b : Blocked) : Type 0 where
  pub is : w.blocked ≡ Some b
  pub asks : asks_next code h w.name ≡ Some (asked_at b)
  pub blocked : IsBlockedIn h w.name (asked_at b)

-- the last step of a path is number k, a sleep on condition c with mutex m
pub record IsLastSleep (w : Walk) (c m k : ℕ) : Type 0 where
  pub sleep : Sleep
  pub last : slice_get w.sleeps (length w.sleeps - 1) ≡ Some sleep
  pub step : sleep.step ≡ k
  pub condition : sleep.condition ≡ c
  pub mutex : sleep.mutex ≡ m
  pub wake : sleep.wake ≡ None
  pub ends : k + 1 ≡ length w.places
