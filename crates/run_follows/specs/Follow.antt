-- Which deeds may come after a history.
use Rattle.std.specs.Prelude.{◌≡◌, ℕ, ◌+◌, ◌==◌, ℤ, pos, Bool, true, false, not, ◌&&◌, ◌||◌, Option, Some, None, is_none, unwrap_or}
use Rattle.std.specs.Prelude.{List, ◌∷◌, ◌++◌, map}
use Rattle.std.specs.FinSet as set
use Rattle.run_history.specs.tc_base.Names.{Name, child}
use Rattle.run_history.specs.store_buffers.Buffers.{newest}
use Rattle.run_history.specs.list_laws.Lists.{is_nil}
use Rattle.run_history.specs.tc_base.declared.moves.Move.{Move}
use Rattle.run_history.specs.tc_base.declared.moves.Move.TheVariants as move
use Rattle.run_history.specs.tc_base.declared.request.Request.{Request}
use Rattle.run_history.specs.tc_base.declared.request.Request.TheVariants.{Read, Exchange, Acquire, EndWait}
use Rattle.run_history.specs.tc_base.declared.request.Request.TheVariants.{WakeOne, Start, Await}
use Rattle.run_history.specs.tc_code.Code.{Code}
use Rattle.run_history.specs.tc_code.Step.{drains_first}
use Rattle.run_history.specs.store_buffers.Pending.{stores, Binding, form_of}
use Rattle.run_history.specs.History.{Deed, Did, Drained, pending}
use Rattle.run_history.specs.Locals.{asks_next}
use Rattle.run_history.specs.Told.{value_in, owner_in, waiting_in, is_thread_in, steps_in, children_in, has_exited_in, failed_in}
use Rattle.run_history.specs.pending.Deeds.{MayDrainNext}

-- what a load returns: the thread's newest pending store to the cell, else the value in memory
abbrev pub seen_in : Bool → Code → List Deed → Name → ℕ → ℤ
seen_in buffered code h n c =
    unwrap_or (newest (stores (pending buffered h n)) c) (value_in buffered code h c)

-- whether mutexes, waiters and children allow a request
abbrev pub is_let_in : List Deed → Name → Request → Bool
is_let_in h n (Acquire m) = is_none (owner_in h m)
is_let_in h n (EndWait c m) = not (set.contains (waiting_in h c) n) && is_none (owner_in h m)
is_let_in h n (WakeOne c) = set.len (waiting_in h c) == 0
is_let_in h n (Await k) = has_exited_in h (child n k)
is_let_in h n _ = true

-- whether a request may be done: `is_let_in`, and the thread's stores have drained if they must
abbrev pub is_allowed_in : Bool → List Deed → Name → Request → Bool
is_allowed_in buffered h n r =
    (not (drains_first r) || is_nil (stores (pending buffered h n))) && is_let_in h n r

-- whether a request of n is a signal that may wake u: n has no pending store, and u waits
abbrev pub may_wake_in : Bool → List Deed → Name → Name → Request → Bool
may_wake_in buffered h n u (WakeOne c) =
    is_nil (stores (pending buffered h n)) && set.contains (waiting_in h c) u
may_wake_in buffered h n u _ = false

-- the value that a request reads, and 0 if it reads none
abbrev pub taken_in : Bool → Code → List Deed → Name → Request → ℤ
taken_in buffered code h n (Read c) = seen_in buffered code h n c
taken_in buffered code h n (Exchange c u) = value_in buffered code h c
taken_in buffered code h n _ = pos 0

-- whether a step with this request and this other thread may be done
abbrev pub may_do_in : Bool → List Deed → Name → Request → Option Name → Bool
may_do_in buffered h n (WakeOne c) (Some u) = may_wake_in buffered h n u (WakeOne c)
may_do_in buffered h n r other = is_allowed_in buffered h n r

-- the other thread of a step: the child that it creates, none, or anything for a signal
abbrev pub OtherIs : List Deed → Name → Request → Option Name → Type 0
OtherIs h n (Start f) other = other ≡ Some (child n (children_in h n + 1))
OtherIs h n (WakeOne c) other = Unit {0}
OtherIs h n _ other = other ≡ None

-- a step is the next of its thread: it may be done, and its request, number and value are right
pub record IsNextStep (buffered : Bool) (code : Code) (h : List Deed) (n : Name) (k : ℕ)
    (r : Request) (took : ℤ) (other : Option Name) : Type 0 where
  pub asks : asks_next code h n ≡ Some r
  pub number : k ≡ steps_in h n
  pub may : may_do_in buffered h n r other ≡ true
  pub takes : took ≡ taken_in buffered code h n r
  pub other_is : OtherIs h n r other

-- the model has buffers, and this store may drain next
pub record IsNextDrain (buffered : Bool) (bound : Binding) (h : List Deed) (n : Name) (k c : ℕ)
    (v : ℤ) : Type 0 where
  pub buffers : buffered ≡ true
  pub next : MayDrainNext bound h n k c v

-- some store of the thread may drain next, by this form
pub record HasTurn (buffered : Bool) (bound : Binding) (h : List Deed) (n : Name)
    (form : Option ℕ) : Type 0 where
  pub number : ℕ
  pub cell : ℕ
  pub value : ℤ
  pub by_form : form_of bound cell ≡ form
  pub next : IsNextDrain buffered bound h n number cell value

-- a deed may come after a history
abbrev pub MayFollow : Bool → Binding → Code → List Deed → Deed → Type 0
MayFollow buffered bound code h (Did n k r took other) = IsNextStep buffered code h n k r took other
MayFollow buffered bound code h (Drained n k c v) = IsNextDrain buffered bound h n k c v

-- each deed may come after those before it, and nothing comes after a failure
abbrev pub AllFollow : Bool → Binding → Code → List Deed → Type 0
AllFollow buffered bound code h =
    (older newer : List Deed) (d : Deed) → h ≡ older ++ d ∷ newer
    → (failed_in older ≡ None) × MayFollow buffered bound code older d

-- no deed may come after a history
abbrev pub NothingFollows : Bool → Binding → Code → List Deed → Type 0
NothingFollows buffered bound code h = (d : Deed) → MayFollow buffered bound code h d → ⊥

-- a thread exists after the history and has not exited
pub record IsLeftIn (h : List Deed) (n : Name) : Type 0 where
  pub there : is_thread_in h n ≡ true
  pub going : has_exited_in h n ≡ false

-- a deadlock: no thread has failed, no deed may follow, and some thread has not exited
pub record IsStuckIn (buffered : Bool) (bound : Binding) (code : Code)
    (h : List Deed) : Type 0 where
  pub unfailed : failed_in h ≡ None
  pub still : NothingFollows buffered bound code h
  pub left : (n : Name) × IsLeftIn h n

-- every step is by a thread that exists and has not exited
abbrev pub StepsAreOfThreads : List Deed → Type 0
StepsAreOfThreads h =
    (older newer : List Deed) (n : Name) (k : ℕ) (r : Request) (took : ℤ) (other : Option Name)
    → h ≡ older ++ Did n k r took other ∷ newer → IsLeftIn older n

-- the move that does a deed; the model's binding decides whether a drain names its cell
abbrev pub move_for : Binding → Deed → Move
move_for bound (Did n k (WakeOne c) took (Some u)) = move.Wake n u
move_for bound (Did n k r took other) = move.Run n
move_for bound (Drained n k c v) = move.Drain n (form_of bound c)

abbrev pub moves_for : Binding → List Deed → List Move
moves_for bound h = map (move_for bound) h
