-- Failures in place of an outcome, and which answers they are.
use Rattle.std.specs.Prelude.{◌≡◌, ◌⊎◌, ℕ, List, Result, Ok, Err}
use Rattle.tc_io.specs.Outside.{ShelfTells, SinkTells, Wrote, WrotePart}
use Rattle.command_frame.specs.Inputs.{FailsToRead, Limit, PassesLimit, Wanted, Whole}
use Rattle.command_frame.specs.Keeps.{FailsToKeep, HoldsFirst, Keep}
use Rattle.command_frame.specs.Answers.{Answer, Gives, ReadFault, TooLong, WriteFault, NoMemory, SaysNoMemory, number_of, limit_line, memory_line, read_line, write_line}
use Rattle.command_frame.specs.declared.status.Status.{Status}
use Rattle.command_frame.specs.declared.status.Status.TheVariants as status
use Rattle.command_frame.specs.declared.failure.Failure.{Failure}
use Rattle.command_frame.specs.declared.failure.Failure.TheVariants as failure
use Rattle.command_frame.specs.declared.limit.Limit.{Limit as RawLimit}
use Rattle.command_frame.specs.declared.input.Whole.{Whole as RawWhole}
use Rattle.command_frame.specs.declared.keeping.Keep.{Keep as RawKeep}

abbrev pub plain_limit : RawLimit → Limit
plain_limit limit = record { kind = limit.kind.now; most = limit.most }

abbrev pub plain_whole : RawWhole → Wanted
plain_whole whole = Whole (plain_limit whole.limit) whole.name.now

abbrev pub plain_keep : RawKeep → Keep
plain_keep keep = record { name = keep.name.now; bytes = keep.bytes.now }

-- the answer that reports a failure
abbrev pub failed_answer : {A : Type 0} → Failure → Answer A
failed_answer (failure.Read name) = ReadFault name.now
failed_answer (failure.TooLong limit) = TooLong (plain_limit limit)
failed_answer (failure.Write name) = WriteFault name.now
failed_answer failure.Memory = NoMemory

-- the answer that an outcome is, or a failure in its place
abbrev pub answer_of : {A : Type 0} → Result A Failure → Answer A
answer_of (Ok outcome) = Gives outcome
answer_of (Err f) = failed_answer f

-- nothing was kept, and no fault was counted
abbrev pub HeldStill : ShelfTells → ShelfTells → Type 0
HeldStill old new = (new.held ≡ old.held) × (new.faults ≡ old.faults)

-- why not all inputs could be read
abbrev pub IsWhyMissing : List Wanted → ShelfTells → ShelfTells → Failure → Type 0
IsWhyMissing ws old new (failure.Read name) = FailsToRead ws old new name.now
IsWhyMissing ws old new (failure.TooLong limit) = PassesLimit ws old new (plain_limit limit)
IsWhyMissing ws old new failure.Memory = HeldStill old new
IsWhyMissing ws old new (failure.Write name) = ⊥

-- why not everything was kept
abbrev pub IsWhyUnkept : List Keep → ShelfTells → ShelfTells → Failure → Type 0
IsWhyUnkept ks old new (failure.Write name) = FailsToKeep ks old new name.now
IsWhyUnkept ks old new failure.Memory = (new.faults ≡ old.faults) × HoldsFirst ks old.held new.held
IsWhyUnkept ks old new _ = ⊥

-- the line for a failure
abbrev pub failure_line : Failure → List ℕ
failure_line (failure.Read name) = read_line name.now
failure_line (failure.TooLong limit) = limit_line (plain_limit limit)
failure_line (failure.Write name) = write_line name.now
failure_line failure.Memory = memory_line

-- the status of a failure
abbrev pub failure_status : Failure → Status
failure_status (failure.Read name) = status.ReadFault
failure_status (failure.TooLong limit) = status.OverLimit
failure_status (failure.Write name) = status.WriteFault
failure_status failure.Memory = status.NoMemory

-- the effect of no memory for the line: after a failed keep, nothing was put
abbrev pub SaysNoMoreOf : Failure → ℕ → SinkTells → SinkTells → Type 0
SaysNoMoreOf (failure.Write _) status old new = (status ≡ 8) × (new ≡ old)
SaysNoMoreOf _ status old new = SaysNoMemory status old new

-- the line was put with its status, or the put failed, or there was no memory for the line
abbrev pub SaysFailure : Failure → ℕ → SinkTells → SinkTells → Type 0
SaysFailure f status old new =
    ((status ≡ number_of (failure_status f)) × Wrote old new (failure_line f))
    ⊎ ((status ≡ 8) × WrotePart old new (failure_line f)) ⊎ SaysNoMoreOf f status old new
