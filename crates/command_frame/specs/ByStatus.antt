-- What a run over known inputs puts, by status.
use Rattle.std.specs.Prelude.{◌≡◌, ◌⊎◌, ℕ, List}
use Rattle.tc_io.specs.Outside.{SinkTells, Wrote}
use Rattle.command_frame.specs.Inputs.{AreWithin, IsTooLong, Limit, Texts}
use Rattle.command_frame.specs.Meaning.{Meaning}
use Rattle.command_frame.specs.Answers.{IsFaultStatus, limit_line}
use Rattle.command_frame.specs.Causes.{IsSaidAs}
use Rattle.command_frame.specs.declared.status.Status.{Status}

-- the status, but for devices and memory
abbrev pub IsStatus : ℕ → ℕ → Type 0
IsStatus status wanted = (status ≡ wanted) ⊎ IsFaultStatus status

-- an outcome with this status comes of the bytes, and its text was put
abbrev pub PutsOutcome : {A : Type 0} → Meaning A → Texts → Status → SinkTells → SinkTells → Type 0
PutsOutcome {A} m t s before after =
    (outcome : A) × AreWithin m.inputs t × m.ComesOf t outcome × (m.status_of outcome ≡ s)
    × (text : List ℕ) × m.IsTextOf outcome text × Wrote before after text

-- the first input that is too long was told
abbrev pub PutsLimit : {A : Type 0} → Meaning A → Texts → SinkTells → SinkTells → Type 0
PutsLimit m t before after =
    (limit : Limit) × IsTooLong m.inputs t limit × Wrote before after (limit_line limit)

-- all outcomes that come of the same bytes are said alike
abbrev pub Decides : {A : Type 0} → Meaning A → Texts → Type 0
Decides {A} m t = (one other : A) → m.ComesOf t one → m.ComesOf t other → IsSaidAs m one other
