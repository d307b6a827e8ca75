-- Bytes that aren't a refutation.
use Rattle.std.specs.Prelude.{ℕ, List, Some}
use Rattle.refute_check.specs.Reading.{Reading, ReadsTo, beginning}
use Rattle.refute_check.specs.declared.text.Taken.{Taken}
use Rattle.refute_check.specs.declared.fault.RefutationFault.{RefutationFault}
use Rattle.refute_check.specs.declared.fault.RefutationFault.TheVariants.{Form, Memory}

-- line `n` is the first that breaks the form, if a text read up to `s` ends with these bytes
abbrev pub BreaksFrom : Reading → List ℕ → ℕ → Type 0
BreaksFrom s bytes n = (ts : List Taken) × ReadsTo s bytes ts (Some n)

-- line `n`, from 1, is the first that breaks the form of a refutation
abbrev pub BreaksAt : List ℕ → ℕ → Type 0
BreaksAt bytes n = BreaksFrom beginning bytes n

-- what a fault claims about the last bytes of a text
abbrev pub IsFaultFrom : Reading → List ℕ → RefutationFault → Type 0
IsFaultFrom s bytes (Form n) = BreaksFrom s bytes n
IsFaultFrom s bytes Memory = Unit {0}

-- what a fault claims about all bytes of a text
abbrev pub IsFault : List ℕ → RefutationFault → Type 0
IsFault bytes fault = IsFaultFrom beginning bytes fault
