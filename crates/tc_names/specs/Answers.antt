-- The result of the check of a program's names.
use Rattle.std.specs.Prelude.{◌≡◌, Option, Some, None, Result, Ok, Err}
use Rattle.tc_names.specs.declared.fault.NameFault.{NameFault}
use Rattle.tc_names.specs.declared.fault.NameFault.TheVariants.{Memory}

-- the result is this fault, or success if there is none; but memory may run out
abbrev pub TellsUnlessMemory : {A : Type 0} → Result A NameFault → Option NameFault → Type 0
TellsUnlessMemory (Ok a) fault = fault ≡ None
TellsUnlessMemory (Err Memory) fault = Unit {0}
TellsUnlessMemory (Err f) fault = fault ≡ Some f
