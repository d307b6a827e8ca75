-- The theorem about every run of a command.
use Rattle.std.specs.Prelude.{◌≡◌, ◌≢◌, ◌⊎◌, ℕ, List, [], Some}
use Rattle.tc_io.specs.Outside.{ShelfTells, SinkTells, Writing}
use Rattle.command_frame.specs.Inputs.{Texts}
use Rattle.command_frame.specs.Keeps.{Keep, put_all}
use Rattle.command_frame.specs.Meaning.{Meaning}
use Rattle.command_frame.specs.Answers.{Answer, Gives, IsFaultStatus, Puts, Says}
use Rattle.command_frame.specs.Causes.{HoldsSome, IsAnswerTo, IsCause, IsOnlyAnswer, LosesOne}

-- the keeps of an answer
abbrev pub kept_by : {A : Type 0} → Meaning A → Answer A → List Keep
kept_by m (Gives outcome) = m.keeps_of outcome
kept_by m _ = []

-- every run of a command
pub record Runs {A : Type 0} (m : Meaning A) (old new : ShelfTells) (status : ℕ)
    (before after : SinkTells) : Type 0 where
  -- the answer has its cause, and was put with its status, as far as the sink and memory allowed
  pub answer : (a : Answer A) × IsCause m old new a × Says m a status before after
  -- unless a put, a keep or memory fails, the answer was put and all its keeps were made
  pub whole : status ≢ 8 → status ≢ 9
      → (a : Answer A) × IsCause m old new a × Puts m a status before after
      × (new.held ≡ put_all (kept_by m a) old.held)
  -- without memory, a first part of an outcome's keeps was made, maybe none or all
  pub no_memory : status ≡ 9 → HoldsSome m old new
  -- after a failed put, likewise; or the next keep failed, which may leave a prefix of its bytes
  pub write_fault : status ≡ 8 → HoldsSome m old new ⊎ ((name : List ℕ) × LosesOne m old new name)
  -- after a failed keep, the status is 8
  pub failed_keep : new.faults ≢ old.faults → (name : List ℕ) → new.last_fault ≡ Some (Writing name)
      → (status ≡ 8) × LosesOne m old new name

-- a run over inputs with these bytes
pub record RunsOver {A : Type 0} (m : Meaning A) (t : Texts) (status : ℕ)
    (before after : SinkTells) : Type 0 where
  -- unless a device or memory fails, it puts an answer to these bytes
  pub answer : (IsFaultStatus status → ⊥)
      → (a : Answer A) × IsAnswerTo m t a × Puts m a status before after
  -- unless a device or memory fails, it puts the only answer, if there is only one
  pub exactly : (a : Answer A) → IsOnlyAnswer m t a
      → Puts m a status before after ⊎ IsFaultStatus status
