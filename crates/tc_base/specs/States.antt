-- States of the machine.
use Rattle.std.specs.Prelude.{ℕ, ℤ, Bool, List, Option}
use Rattle.std.specs.Ordering.{nat_cmp}
use Rattle.std.specs.Cmp.Lexicographic.{slice_cmp}
use Rattle.std.specs.FinSet.{FinSet}
use Rattle.tc_base.specs.Names.{Name, ByName}
use Rattle.tc_base.specs.declared.handle.Handle.{Handle}

-- a thread's own state, except its store buffer
pub record Local : Type 0 where
  -- the number of its function, and of its next instruction in that function
  pub function : ℕ
  pub instruction : ℕ
  -- its int variables, and its thread variables
  pub slots : List ℤ
  pub handles : List Handle
  -- for each mutex, whether the thread holds it
  pub held : List Bool
  -- how many threads this thread has created
  pub children : ℕ
  pub has_exited : Bool
  -- the outcomes of its branches, in order
  pub outcomes : List Bool
  -- how many instructions the thread has executed, counting one that failed
  pub steps : ℕ

-- a thread with a store buffer of type B
pub record Thread (B : Type 0) : Type 0 where
  pub local : Local
  pub buffer : B

pub record State (B : Type 0) : Type 0 where
  -- the value of each cell
  pub memory : List ℤ
  -- the owner of each mutex, if it has one
  pub owners : List (Option Name)
  -- the threads that wait on each condition
  pub waiters : List (FinSet (slice_cmp nat_cmp))
  pub threads : ByName (Thread B)
  -- the thread that failed, if one did
  pub failed : Option Name
