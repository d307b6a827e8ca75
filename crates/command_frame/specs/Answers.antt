-- The answers of a command, with their texts and statuses, and how they are put.
use Rattle.std.specs.Prelude.{◌≡◌, ◌⊎◌, ℕ, ◌+◌, List, ◌++◌, codes}
use Rattle.std.specs.Fmt.{decimal}
use Rattle.tc_io.specs.Outside.{SinkTells, Wrote, WrotePart}
use Rattle.command_frame.specs.Inputs.{Limit}
use Rattle.command_frame.specs.Meaning.{Meaning}
use Rattle.command_frame.specs.declared.status.Status.{Status}
use Rattle.command_frame.specs.declared.status.Status.TheVariants as status

-- the number of a status
abbrev pub number_of : Status → ℕ
number_of status.Done = 0
number_of status.Fails = 1
number_of status.Usage = 2
number_of status.ProgramRefused = 3
number_of status.LogRefused = 4
number_of status.InputRefused = 5
number_of status.OverLimit = 6
number_of status.ReadFault = 7
number_of status.WriteFault = 8
number_of status.NoMemory = 9
number_of status.Open = 10

-- an outcome, or why there is no outcome or not all of it was kept
pub data Answer (A : Type 0) : Type 0 where
  Gives : (outcome : A) → Answer A
  -- the file of this name couldn't be read
  ReadFault : (name : List ℕ) → Answer A
  -- an input has more bytes than this limit
  TooLong : (limit : Limit) → Answer A
  -- the file of this name couldn't be written
  WriteFault : (name : List ℕ) → Answer A
  NoMemory : Answer A

abbrev pub read_line : List ℕ → List ℕ
read_line name = codes "read fault: " ++ (name ++ codes "\n")

abbrev pub limit_line : Limit → List ℕ
limit_line limit = codes "limit "
    ++ (limit.kind
    ++ (codes "-bytes "
    ++ (decimal (limit.most + 1) ++ (codes " of " ++ (decimal limit.most ++ codes "\n")))))

abbrev pub write_line : List ℕ → List ℕ
write_line name = codes "write fault: " ++ (name ++ codes "\n")

abbrev pub memory_line : List ℕ
memory_line = codes "no memory\n"

-- the text is one for this answer
abbrev pub IsTextOf : {A : Type 0} → Meaning A → Answer A → List ℕ → Type 0
IsTextOf m (Gives outcome) text = m.IsTextOf outcome text
IsTextOf m (ReadFault name) text = text ≡ read_line name
IsTextOf m (TooLong limit) text = text ≡ limit_line limit
IsTextOf m (WriteFault name) text = text ≡ write_line name
IsTextOf m NoMemory text = text ≡ memory_line

-- the number of the status of an answer
abbrev pub status_of : {A : Type 0} → Meaning A → Answer A → ℕ
status_of m (Gives outcome) = number_of (m.status_of outcome)
status_of m (ReadFault name) = 7
status_of m (TooLong limit) = 6
status_of m (WriteFault name) = 8
status_of m NoMemory = 9

-- the statuses of failed devices and of lack of memory
abbrev pub IsFaultStatus : ℕ → Type 0
IsFaultStatus status = (status ≡ 7) ⊎ (status ≡ 8) ⊎ (status ≡ 9)

-- the answer's text was put, with its status
abbrev pub Puts : {A : Type 0} → Meaning A → Answer A → ℕ → SinkTells → SinkTells → Type 0
Puts m a status old new =
    (text : List ℕ) × IsTextOf m a text × (status ≡ status_of m a) × Wrote old new text

-- the put failed after a part of the answer's text
abbrev pub FailsToPut : {A : Type 0} → Meaning A → Answer A → ℕ → SinkTells → SinkTells → Type 0
FailsToPut m a status old new =
    (text : List ℕ) × IsTextOf m a text × (status ≡ 8) × WrotePart old new text

-- nothing was put, or `no memory`
abbrev pub PutsAtMostNoMemory : SinkTells → SinkTells → Type 0
PutsAtMostNoMemory old new = (new ≡ old) ⊎ Wrote old new memory_line

-- there was no memory for the text: `no memory` was put, a part of it or nothing
abbrev pub SaysNoMemory : ℕ → SinkTells → SinkTells → Type 0
SaysNoMemory status old new =
    ((status ≡ 9) × PutsAtMostNoMemory old new) ⊎ ((status ≡ 8) × WrotePart old new memory_line)

-- this text was put with this status, or the put failed, or there was no memory for it
abbrev pub SaysLine : List ℕ → Status → ℕ → SinkTells → SinkTells → Type 0
SaysLine text wanted status old new = ((status ≡ number_of wanted) × Wrote old new text)
    ⊎ ((status ≡ 8) × WrotePart old new text) ⊎ SaysNoMemory status old new

-- the effect of no memory for the text: after a failed keep, nothing was put
abbrev pub SaysNoMore : {A : Type 0} → Answer A → ℕ → SinkTells → SinkTells → Type 0
SaysNoMore (WriteFault _) status old new = (status ≡ 8) × (new ≡ old)
SaysNoMore _ status old new = SaysNoMemory status old new

-- the answer's text was put, or the put failed, or there was no memory for the text
abbrev pub Says : {A : Type 0} → Meaning A → Answer A → ℕ → SinkTells → SinkTells → Type 0
Says m a status old new =
    Puts m a status old new ⊎ FailsToPut m a status old new ⊎ SaysNoMore a status old new
