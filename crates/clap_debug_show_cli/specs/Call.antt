-- The answers of a call of the program, given the shelf and the sink before and after it.
use Rattle.std.specs.Prelude.{◌≡◌, ◌≢◌, ◌⊎◌, ℕ, List, [], ◌∷◌, Option, Some, None, IfSome, IsSomeAnd, string_bytes}
use Rattle.std.specs.Borrow.{Bor}
use Rattle.tc_io.specs.Outside.{Files, ShelfTells, SinkTells, Writing, KeptPart, bytes_at, put_under}
use Rattle.command_frame.specs.Answers.{Answer, IsFaultStatus, Puts, SaysLine, SaysNoMemory}
use Rattle.command_frame.specs.Causes.{Finds, IsAnswerTo}
use Rattle.command_frame.specs.Inputs.{Texts}
use Rattle.command_frame.specs.Meaning.{Meaning}
use Rattle.command_frame.specs.Run.{Runs}
use Rattle.command_frame.specs.declared.status.Status.TheVariants.{Usage}
use Rattle.clap_debug_show_cli.specs.Answers.{usage_text}
use Rattle.clap_debug_show_cli.specs.Calls.{Asked, Help, Show, Shows, call_of}
use Rattle.clap_debug_show_cli.specs.Commands.{help_of, show_of}
use Rattle.clap_debug_show_cli.specs.declared.show.Showed.TheVariants.{Page}
use Rattle.clap_debug_show_cli.specs.declared.shown.Shown.{Shown}

-- the shelf gave the files, the call makes a page of them to keep under this name, and `P` holds
abbrev pub HasPage : Shows → ShelfTells → (name : List ℕ) → (ShelfTells → List ℕ → Type 0) → Type 0
HasPage call old name P =
    (call.page ≡ Some name) × (shown : Shown) × (own : Bor (List ℕ)) × (page : _)
    × Finds (show_of call) old (Page shown own page) (λ s. P s (string_bytes page))

-- the shelf has the page of these files under this name, and everything else as before
abbrev pub Holds : Shows → (name : List ℕ) → ShelfTells → ShelfTells → Type 0
Holds call name old new = HasPage call old name (λ s page. new.held ≡ put_under name page old.held)

-- the keep of that page failed
abbrev pub Loses : Shows → (name : List ℕ) → ShelfTells → ShelfTells → Type 0
Loses call name old new = HasPage call old name (λ s page. KeptPart s new name page)

-- what a call that shows a file leaves on the shelf, by status
pub record LeavesPage (call : Shows) (status : ℕ) (old new : ShelfTells) : Type 0 where
  -- a call without a page leaves the files as they were
  pub text : call.page ≡ None → new.held ≡ old.held
  pub kept : (name : List ℕ) → call.page ≡ Some name → status ≡ 0 → Holds call name old new
  pub none : status ≢ 0 → status ≢ 8 → status ≢ 9 → new.held ≡ old.held
  -- without memory, or after a failed put, the whole page was kept or nothing was
  pub whole : (name : List ℕ) → call.page ≡ Some name → status ≡ 9
      → (new.held ≡ old.held) ⊎ Holds call name old new
  pub part : (name : List ℕ) → call.page ≡ Some name → status ≡ 8
      → (new.held ≡ old.held) ⊎ Holds call name old new ⊎ Loses call name old new

-- what a call leaves on the shelf, by status; help keeps nothing
abbrev pub Leaves : Asked → (status : ℕ) → ShelfTells → ShelfTells → Type 0
Leaves (Help name) status old new = new.held ≡ old.held
Leaves (Show call) status old new = LeavesPage call status old new

-- the keep of the page under this name failed
abbrev pub HasLost : Asked → (name : List ℕ) → ShelfTells → ShelfTells → Type 0
HasLost (Help _) name old new = ⊥
HasLost (Show call) name old new = Loses call name old new

-- the call was run, or, if the words aren't accepted, the usage was put
abbrev pub Does : Option Asked → ShelfTells → ShelfTells → (status : ℕ) → SinkTells → SinkTells
    → Type 0
Does (Some (Help name)) old new = Runs (help_of name) old new
Does (Some (Show call)) old new = Runs (show_of call) old new
Does None old new =
    λ status before after. (new ≡ old) × SaysLine usage_text Usage status before after

-- there was no memory for the words, and the shelf is as before
abbrev pub HearsNothing : ShelfTells → ShelfTells → (status : ℕ) → SinkTells → SinkTells → Type 0
HearsNothing old new status before after = (new ≡ old) × SaysNoMemory status before after

-- the theorem about every call
pub record CallAnswers (words : List (List ℕ)) (old new : ShelfTells) (status : ℕ)
    (before after : SinkTells) : Type 0 where
  -- the answer has its cause, and was put with its status
  pub answer : Does (call_of words) old new status before after
      ⊎ HearsNothing old new status before after
  -- words that aren't accepted leave the shelf as it was
  pub only_usage : call_of words ≡ None → (new ≡ old) × ((status ≡ 2) ⊎ (status ≡ 8) ⊎ (status ≡ 9))
  -- after a failed keep, the status is 8
  pub failed_keep : new.faults ≢ old.faults → (name : List ℕ) → new.last_fault ≡ Some (Writing name)
      → (status ≡ 8) × IsSomeAnd (call_of words) (λ call. HasLost call name old new)
  -- only the name of the page changes on the shelf
  pub leaves : IfSome (call_of words) (λ call. Leaves call status old new)

-- a fact about a call and the files, if the words are accepted and the shelf tells its files
abbrev pub IfTold : List (List ℕ) → Option Files → (Asked → Files → Type 0) → Type 0
IfTold words held P = IfSome (call_of words) (λ call. IfSome held (λ files. P call files))

-- the call puts exactly an answer to the files
pub record PutsAnswer {A : Type 0} (m : Meaning A) (t : Texts) (status : ℕ)
    (before after : SinkTells) : Type 0 where
  -- unless a device or memory fails, it puts an answer to the files
  pub answer : (IsFaultStatus status → ⊥)
      → (a : Answer A) × IsAnswerTo m t a × Puts m a status before after
  -- it puts each answer to the files, unless a device or memory fails
  pub exactly : (a : Answer A) → IsAnswerTo m t a
      → Puts m a status before after ⊎ IsFaultStatus status

-- the answers of a call to its files
abbrev pub ToldAnswers : Asked → Files → (status : ℕ) → (before after : SinkTells) → Type 0
ToldAnswers (Help name) files = PutsAnswer (help_of name) (bytes_at files name ∷ [])
ToldAnswers (Show call) files =
    PutsAnswer (show_of call) (bytes_at files call.program ∷ bytes_at files call.file ∷ [])
