-- Invariants of the states that runs of lawful code reach.
use Rattle.std.specs.Prelude.{◌≡◌, ◌≢◌, ◌↔◌, ◌+◌, ◌≤◌, ℕ, Option, Some, None, IsSome, IsTrue, slice_index_or}
use Rattle.std.specs.FinMap as fin
use Rattle.std.specs.FinSet as set
use Rattle.tc_code.specs.tc_base.Names.{Name, main, child}
use Rattle.tc_code.specs.tc_base.States.{Local, Thread, State}
use Rattle.tc_code.specs.tc_base.declared.handle.Handle.{Handle}
use Rattle.tc_code.specs.tc_base.declared.handle.Handle.TheVariants.{Unset, Child, Joined}
use Rattle.tc_code.specs.declared.instr.Instr.TheVariants.{Unlock, Sleep, Wake, Join, Exit}
use Rattle.tc_code.specs.Code.{Code, instr_at}
use Rattle.tc_code.specs.Step.{holds, can_be_joined, handle_of, instr_of, waiting_on}

-- the owner of a mutex, if it has one
abbrev pub owner_of : {B : Type 0} → State B → ℕ → Option Name
owner_of s m = slice_index_or s.owners m None

-- a thread holds a mutex if and only if it owns it, and every owner is a thread
pub record OwnersHold {B : Type 0} (s : State B) : Type 0 where
  pub holder : (n : Name) (t : Thread B) (m : ℕ) → fin.get s.threads n ≡ Some t
      → IsTrue (holds t.local m) ↔ (owner_of s m ≡ Some n)
  pub there : (n : Name) (m : ℕ) → owner_of s m ≡ Some n → IsSome (fin.get s.threads n)

-- at the instruction after a site, what the site tested holds
pub record HasTested (code : Code) (t : Local) : Type 0 where
  pub unlock : (m : ℕ) → instr_of code t ≡ Some (Unlock m) → IsTrue (holds t m)
  pub sleep : (c m : ℕ) → instr_of code t ≡ Some (Sleep c m) → IsTrue (holds t m)
  pub join : (h : ℕ) → instr_of code t ≡ Some (Join h) → IsTrue (can_be_joined (handle_of t h))

-- the named thread exists, and its next instruction is a wake on the condition
pub record IsAtWake {B : Type 0} (code : Code) (s : State B) (c : ℕ) (n : Name) : Type 0 where
  pub thread : Thread B
  pub there : fin.get s.threads n ≡ Some thread
  pub mutex : ℕ
  pub at : instr_of code thread.local ≡ Some (Wake c mutex)

-- every waiter of a condition is a thread at a wake on it
abbrev pub WaitersAreAtWake : {B : Type 0} → Code → State B → Type 0
WaitersAreAtWake code s =
    (n : Name) (c : ℕ) → IsTrue (set.contains (waiting_on s c) n) → IsAtWake code s c n

-- the instruction before a thread's place is an exit
pub record IsPastExit (code : Code) (t : Local) : Type 0 where
  pub place : ℕ
  pub next : t.instruction ≡ place + 1
  pub exit : instr_at code t.function place ≡ Some Exit

-- a thread has exited if and only if its last instruction was an exit
abbrev pub ExitedPastExit : Code → Local → Type 0
ExitedPastExit code t = IsTrue t.has_exited ↔ IsPastExit code t

-- the thread has created a child with this number
pub record IsChildOf (t : Local) (k : ℕ) : Type 0 where
  pub first : 1 ≤ k
  pub last : k ≤ t.children

-- the name is that of a child that an existing thread has created
pub record IsCreated {B : Type 0} (s : State B) (n : Name) : Type 0 where
  pub parent : Name
  pub number : ℕ
  pub name : n ≡ child parent number
  pub thread : Thread B
  pub there : fin.get s.threads parent ≡ Some thread
  pub created : IsChildOf thread.local number

-- every created child is a thread, and every thread but main is a created child
pub record ThreadsAreCreated {B : Type 0} (s : State B) : Type 0 where
  pub child_is_there : (n : Name) (t : Thread B) (k : ℕ) → fin.get s.threads n ≡ Some t
      → IsChildOf t.local k → IsSome (fin.get s.threads (child n k))
  pub is_created : (n : Name) → IsSome (fin.get s.threads n) → n ≢ main → IsCreated s n

-- a thread variable that holds a child holds one that its thread has created
abbrev pub HoldsChild : Local → Handle → Type 0
HoldsChild t Unset = Unit {0}
HoldsChild t (Child k) = IsChildOf t k
HoldsChild t (Joined k) = IsChildOf t k

abbrev pub HandlesAreChildren : Local → Type 0
HandlesAreChildren t = (h : ℕ) → HoldsChild t (handle_of t h)
