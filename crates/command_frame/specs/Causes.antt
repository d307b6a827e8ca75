-- The cause of an answer: what the shelf did, and the outcome for the bytes that it gave.
use Rattle.std.specs.Prelude.{◌≡◌, ◌⊎◌, ℕ, List}
use Rattle.tc_io.specs.Outside.{ShelfTells}
use Rattle.command_frame.specs.Inputs.{AreWithin, FailsToRead, GaveAll, IsTooLong, PassesLimit, Texts}
use Rattle.command_frame.specs.Keeps.{FailsToKeep, HoldsFirst, KeptAll}
use Rattle.command_frame.specs.Meaning.{Meaning}
use Rattle.command_frame.specs.Answers.{Answer, Gives, ReadFault, TooLong, WriteFault, NoMemory}

-- the shelf gave the inputs, their bytes have this outcome, and then `P` holds
abbrev pub Finds : {A : Type 0} → Meaning A → ShelfTells → A → (ShelfTells → Type 0) → Type 0
Finds m old outcome P =
    (t : Texts) × (s : ShelfTells) × GaveAll m.inputs old s t × m.ComesOf t outcome × P s

-- the files are as before, or a first part of an outcome's keeps was made
abbrev pub HoldsSome : {A : Type 0} → Meaning A → ShelfTells → ShelfTells → Type 0
HoldsSome {A} m old new = (new.held ≡ old.held)
    ⊎ ((outcome : A) × Finds m old outcome (λ s. HoldsFirst (m.keeps_of outcome) old.held new.held))

-- a first part of an outcome's keeps was made, and the next keep, of this name, failed
abbrev pub LosesOne : {A : Type 0} → Meaning A → ShelfTells → ShelfTells → List ℕ → Type 0
LosesOne {A} m old new name =
    (outcome : A) × Finds m old outcome (λ s. FailsToKeep (m.keeps_of outcome) s new name)

-- the cause of an answer
abbrev pub IsCause : {A : Type 0} → Meaning A → ShelfTells → ShelfTells → Answer A → Type 0
IsCause m old new (Gives outcome) = Finds m old outcome (λ s. KeptAll (m.keeps_of outcome) s new)
IsCause m old new (ReadFault name) = FailsToRead m.inputs old new name
IsCause m old new (TooLong limit) = PassesLimit m.inputs old new limit
IsCause m old new (WriteFault name) = LosesOne m old new name
-- no fault was counted
IsCause m old new NoMemory = (new.faults ≡ old.faults) × HoldsSome m old new

-- the answer to these bytes of the inputs, if no device fails and there is memory
abbrev pub IsAnswerTo : {A : Type 0} → Meaning A → Texts → Answer A → Type 0
IsAnswerTo m t (Gives outcome) = AreWithin m.inputs t × m.ComesOf t outcome
IsAnswerTo m t (TooLong limit) = IsTooLong m.inputs t limit
IsAnswerTo m t _ = ⊥

-- each text of the second outcome is one of the first, with the same status
pub record IsSaidAs {A : Type 0} (m : Meaning A) (one other : A) : Type 0 where
  pub text : (text : List ℕ) → m.IsTextOf other text → m.IsTextOf one text
  pub status : m.status_of other ≡ m.status_of one

-- an answer to these bytes; every other outcome for them has only texts of this one, and its status
abbrev pub IsOnlyAnswer : {A : Type 0} → Meaning A → Texts → Answer A → Type 0
IsOnlyAnswer {A} m t (Gives outcome) =
    AreWithin m.inputs t × m.ComesOf t outcome
    × ((other : A) → m.ComesOf t other → IsSaidAs m outcome other)
IsOnlyAnswer m t a = IsAnswerTo m t a
