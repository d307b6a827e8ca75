-- The faults of a shelf.
use Rattle.std.specs.Prelude.{ℕ, List, Option, None}
use Rattle.tc_io.specs.declared.faults.Access.{Access}
use Rattle.tc_io.specs.declared.faults.Access.TheVariants.{Read, Write}
use Rattle.tc_io.specs.Outside.{Fault, Reading, Writing}

-- how many calls failed, and the last that did
pub record PlainFaults : Type 0 where
  pub count : ℕ
  pub last : Option Fault

-- no call has failed
abbrev pub no_faults : PlainFaults
no_faults = record { count = 0; last = None }

-- the fault of a failed call on this name
abbrev pub fault_of : Access → List ℕ → Fault
fault_of Read name = Reading name
fault_of Write name = Writing name
