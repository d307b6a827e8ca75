-- What blocks the threads when no deed may come after a history.
use Rattle.std.specs.Prelude.{◌≡◌, ◌⊎◌, ℕ, ℤ, Bool, true, false, Option, Some, None, IsSome, IsTrue, List}
use Rattle.std.specs.FinSet as set
use Rattle.run_history.specs.tc_base.Names.{Name, child}
use Rattle.run_history.specs.list_laws.Lists.{is_nil}
use Rattle.run_history.specs.tc_base.declared.request.Request.{Request}
use Rattle.run_history.specs.tc_base.declared.request.Request.TheVariants.{Acquire, EndWait, Await}
use Rattle.run_history.specs.tc_code.Code.{Code}
use Rattle.run_history.specs.store_buffers.Pending.{stores, Binding}
use Rattle.run_history.specs.History.{Deed, Did, pending}
use Rattle.run_history.specs.Locals.{asks_next}
use Rattle.run_history.specs.Told.{owner_in, waiting_in, has_exited_in, failed_in}
use Rattle.run_follows.specs.Follow.{MayFollow, IsLeftIn}

-- no store of a thread is pending
abbrev pub HasDrained : Bool → List Deed → Name → Type 0
HasDrained buffered h n = is_nil (stores (pending buffered h n)) ≡ true

-- no store is pending
abbrev pub AllDrained : Bool → List Deed → Type 0
AllDrained buffered h = (n : Name) → HasDrained buffered h n

-- no step of a thread may come after a history
abbrev pub NoStepFollows : Bool → Binding → Code → List Deed → Name → Type 0
NoStepFollows buffered bound code h n =
    (k : ℕ) (r : Request) (took : ℤ) (other : Option Name)
    → MayFollow buffered bound code h (Did n k r took other) → ⊥

-- a request is blocked: its mutex has an owner, its wait isn't over, or its child has not exited
abbrev pub IsBlockedIn : List Deed → Name → Request → Type 0
IsBlockedIn h n (Acquire m) = IsSome (owner_in h m)
IsBlockedIn h n (EndWait c m) = IsTrue (set.contains (waiting_in h c) n) ⊎ IsSome (owner_in h m)
IsBlockedIn h n (Await k) = has_exited_in h (child n k) ≡ false
IsBlockedIn h n _ = ⊥

-- the thread's next request is blocked
pub record IsBlockedNext (code : Code) (h : List Deed) (n : Name) : Type 0 where
  pub request : Request
  pub asks : asks_next code h n ≡ Some request
  pub blocked : IsBlockedIn h n request

-- each thread that hasn't exited is blocked
abbrev pub AllAreBlocked : Code → List Deed → Type 0
AllAreBlocked code h = (n : Name) → IsLeftIn h n → IsBlockedNext code h n

-- a deadlock: no failure, no pending store, some thread not exited, and all such threads blocked
pub record IsDeadlockIn (buffered : Bool) (code : Code) (h : List Deed) : Type 0 where
  pub unfailed : failed_in h ≡ None
  pub drained : AllDrained buffered h
  pub left : (n : Name) × IsLeftIn h n
  pub blocked : AllAreBlocked code h
