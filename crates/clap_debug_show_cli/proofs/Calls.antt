-- From the theorem of the frame to the answers of every call.
use Rattle.std.proofs.Common.{◌≡◌, ◌≢◌, ◌∙◌, ◌⊎◌, inl, inr, ap, sym, subst, arith, ℕ, List, [], ◌∷◌, Option, Some, None, IfSome, string_bytes}
use Rattle.std.specs.Borrow.{Bor}
use Rattle.std.specs.Option.{IsSomeAnd}
use Rattle.std.proofs.lemmas.Option.{same_Some, none-some}
use Rattle.tc_io.specs.Outside.{Files, ShelfTells, SinkTells, KeptPart, bytes_at}
use Rattle.command_frame.specs.Answers.{Answer, Gives, ReadFault, TooLong, WriteFault, NoMemory, IsFaultStatus, Puts, SaysNoMemory}
use Rattle.command_frame.specs.Causes.{Finds, HoldsSome, IsCause, LosesOne}
use Rattle.command_frame.specs.Inputs.{Texts, texts_under}
use Rattle.command_frame.specs.Keeps.{FailsToKeep, HoldsFirst, put_all}
use Rattle.command_frame.specs.Meaning.{Meaning}
use Rattle.command_frame.specs.Run.{Runs, RunsOver, kept_by}
use Rattle.command_frame.proofs.AllRuns.{left}
use Rattle.clap_debug_show_cli.specs.Call.{Holds, Loses, LeavesPage, HasLost, Leaves, Does, CallAnswers, IfTold, PutsAnswer, ToldAnswers}
use Rattle.clap_debug_show_cli.specs.Calls.{Asked, Help, Show, Shows, call_of}
use Rattle.clap_debug_show_cli.specs.Causes.{ShowsOf}
use Rattle.clap_debug_show_cli.specs.Commands.{help_of, pages_of, show_of}
use Rattle.clap_debug_show_cli.specs.declared.refusal.Refusal.{Refusal}
use Rattle.clap_debug_show_cli.specs.declared.refusal.Refusal.TheVariants.{Over, ProgramRefused, LogBroken, OtherProgram, Unfit, ScheduleRefused}
use Rattle.clap_debug_show_cli.specs.declared.show.Showed.{Showed}
use Rattle.clap_debug_show_cli.specs.declared.show.Showed.TheVariants.{Refused, Text, Page}
use Rattle.clap_debug_show_cli.specs.declared.shown.Shown.{Shown as AnyShown}
use Rattle.clap_debug_show_cli.proofs.OneAnswer.{only_help, only_shown}

-- the call that the words ask for
some_and : (P : Asked → Type 0) (o : Option Asked) (call : Asked) → o ≡ Some call → P call → IsSomeAnd o P
some_and P o call taken p = subst (λ o. IsSomeAnd o P) (sym taken) p

if_some : (P : Asked → Type 0) (o : Option Asked) (call : Asked) → o ≡ Some call → P call → IfSome o P
if_some P o call taken p = subst (λ o. IfSome o P) (sym taken) p

if_any : (P : Asked → Type 0) (o : Option Asked) → ((call : Asked) → P call) → IfSome o P
if_any P None p = tt
if_any P (Some call) p = p call

-- an implication for all files holds for the known files of a shelf, if they are known
for_told : {P Q : Files → Type 0} (o : Option Files) → ((files : Files) → P files → Q files) → IfSome o P → IfSome o Q
for_told None h p = tt
for_told (Some files) h p = h files p

all_told : (P : Files → Type 0) (o : Option Files) → ((files : Files) → P files) → IfSome o P
all_told P None p = tt
all_told P (Some files) p = p files

-- a refusal has a status of its own
refused_status : (call : Shows) (r : Refusal) (status : ℕ) (j k : SinkTells) → Puts (show_of call) (Gives (Refused r)) status j k
    → status ≡ 0 → ⊥
refused_status call (Over what number) status j k puts zero = omega (arith, zero, puts.2)
refused_status call (ProgramRefused fault) status j k puts zero = omega (arith, zero, puts.2)
refused_status call (LogBroken offset) status j k puts zero = omega (arith, zero, puts.2)
refused_status call OtherProgram status j k puts zero = omega (arith, zero, puts.2)
refused_status call (Unfit name misfit) status j k puts zero = omega (arith, zero, puts.2)
refused_status call (ScheduleRefused line) status j k puts zero = omega (arith, zero, puts.2)

no_memory_status : (status : ℕ) (j k : SinkTells) → SaysNoMemory status j k → (status ≡ 8) ⊎ (status ≡ 9)
no_memory_status status j k (inl h) = inr h.0
no_memory_status status j k (inr h) = inl h.0

module _ (call : Shows) where
  -- a page is made only if one is asked for, and a text only if none is
  page_asked : (shown : AnyShown) (own : Bor (List ℕ)) (page : _) (t : Texts) → ShowsOf call t (Page shown own page) → call.page ≡ Some own.now
  page_asked shown own page [] comes = absurd comes
  page_asked shown own page (program ∷ []) comes = absurd comes
  page_asked shown own page (program ∷ file ∷ []) comes = comes.0
  page_asked shown own page (program ∷ file ∷ more ∷ ts) comes = absurd comes

  none_asked : (shown : AnyShown) (t : Texts) → ShowsOf call t (Text shown) → call.page ≡ None
  none_asked shown [] comes = absurd comes
  none_asked shown (program ∷ []) comes = absurd comes
  none_asked shown (program ∷ file ∷ []) comes = comes.0
  none_asked shown (program ∷ file ∷ more ∷ ts) comes = absurd comes

  module _ (old new : ShelfTells) where
    -- the files are as before, or have the page too
    some_of : (x : Showed) → Finds (show_of call) old x (λ s. HoldsFirst (pages_of x) old.held new.held)
        → (new.held ≡ old.held) ⊎ ((name : List ℕ) × Holds call name old new)
    some_of (Refused r) found = inl found.4
    some_of (Text shown) found = inl found.4
    some_of (Page shown own page) found = elim (found.4) [
      | inl same ↦ inl same
      | inr put ↦ inr (
        own.now,
        (page_asked shown own page found.0 found.3, shown, own, page, (found.0, found.1, found.2, found.3, put)),
      )
    ]

    some_left : HoldsSome (show_of call) old new → (new.held ≡ old.held) ⊎ ((name : List ℕ) × Holds call name old new)
    some_left (inl same) = inl same
    some_left (inr some) = some_of some.0 some.1

    -- the failed keep is that of the page
    lost_of : (x : Showed) (name : List ℕ) → Finds (show_of call) old x (λ s. FailsToKeep (pages_of x) s new name) → Loses call name old new
    lost_of (Refused r) name found = absurd found.4
    lost_of (Text shown) name found = absurd found.4
    lost_of (Page shown own page) name found = elim (found.4) [
      | inl failed ↦ (
        page_asked shown own page found.0 found.3 ∙ ap Some (sym failed.0),
        shown,
        own,
        page,
        (found.0, found.1, found.2, found.3, subst (λ n. KeptPart found.1 new n (string_bytes page)) (sym failed.0) failed.1),
      )
      | inr more ↦ absurd more.2
    ]

    lost_page : (name : List ℕ) → LosesOne (show_of call) old new name → Loses call name old new
    lost_page name lost = lost_of lost.0 name lost.1

    own_page : (n name : List ℕ) → call.page ≡ Some name → Holds call n old new → Holds call name old new
    own_page n name asked h = subst (λ m. Holds call m old new) (same_Some n name (sym h.0 ∙ asked)) h

    own_loss : (n name : List ℕ) → call.page ≡ Some name → Loses call n old new → Loses call name old new
    own_loss n name asked h = subst (λ m. Loses call m old new) (same_Some n name (sym h.0 ∙ asked)) h

    left_own : (name : List ℕ) → call.page ≡ Some name → (new.held ≡ old.held) ⊎ ((n : List ℕ) × Holds call n old new)
        → (new.held ≡ old.held) ⊎ Holds call name old new
    left_own name asked (inl same) = inl same
    left_own name asked (inr h) = inr (own_page h.0 name asked h.1)

    -- an answer with status 0 keeps the page if one is asked for
    kept_of : (a : Answer Showed) (status : ℕ) (j k : SinkTells) (name : List ℕ) → call.page ≡ Some name → status ≡ 0
        → IsCause (show_of call) old new a → Puts (show_of call) a status j k → new.held ≡ put_all (kept_by (show_of call) a) old.held
        → Holds call name old new
    kept_of (Gives (Refused r)) status j k name asked zero cause puts held = absurd (refused_status call r status j k puts zero)
    kept_of (Gives (Text shown)) status j k name asked zero cause puts held =
        absurd (none-some name (sym (none_asked shown cause.0 cause.3) ∙ asked))
    kept_of (Gives (Page shown own page)) status j k name asked zero cause puts held =
        own_page own.now name asked
        (page_asked shown own page cause.0 cause.3, shown, own, page, (cause.0, cause.1, cause.2, cause.3, held))
    kept_of (ReadFault n) status j k name asked zero cause puts held = absurd (omega (arith, zero, puts.2))
    kept_of (TooLong limit) status j k name asked zero cause puts held = absurd (omega (arith, zero, puts.2))
    kept_of (WriteFault n) status j k name asked zero cause puts held = absurd (omega (arith, zero, puts.2))
    kept_of NoMemory status j k name asked zero cause puts held = absurd (omega (arith, zero, puts.2))

    -- an answer with another status keeps nothing
    none_of : (a : Answer Showed) (status : ℕ) (j k : SinkTells) → status ≢ 0 → Puts (show_of call) a status j k
        → new.held ≡ put_all (kept_by (show_of call) a) old.held → new.held ≡ old.held
    none_of (Gives (Refused r)) status j k some puts held = held
    none_of (Gives (Text shown)) status j k some puts held = held
    none_of (Gives (Page shown own page)) status j k some puts held = absurd (some puts.2)
    none_of (ReadFault n) status j k some puts held = held
    none_of (TooLong limit) status j k some puts held = held
    none_of (WriteFault n) status j k some puts held = held
    none_of NoMemory status j k some puts held = held

    page_left : (status : ℕ) (j k : SinkTells) → Runs (show_of call) old new status j k → LeavesPage call status old new
    page_left status j k runs = record { text = text; kept = kept; none = none; whole = whole; part = part }
      where
        text : call.page ≡ None → new.held ≡ old.held
        text unasked = elim (left (show_of call) old new runs.answer.0 runs.answer.1) [
          | inl some ↦ elim (some_left some) [
            | inl same ↦ same
            | inr page ↦ absurd (none-some page.0 (sym unasked ∙ page.1.0))
          ]
          | inr lost ↦ absurd (none-some lost.0 (sym unasked ∙ (lost_page lost.0 lost.2).0))
        ]

        kept : (name : List ℕ) → call.page ≡ Some name → status ≡ 0 → Holds call name old new
        kept name asked zero =
            let done = runs.whole (λ eight. omega (arith, zero, eight)) (λ nine. omega (arith, zero, nine)) in
            kept_of done.0 status j k name asked zero done.1 done.2 done.3

        none : status ≢ 0 → status ≢ 8 → status ≢ 9 → new.held ≡ old.held
        none some eight nine = let done = runs.whole eight nine in none_of done.0 status j k some done.2 done.3

        whole : (name : List ℕ) → call.page ≡ Some name → status ≡ 9 → (new.held ≡ old.held) ⊎ Holds call name old new
        whole name asked nine = left_own name asked (some_left (runs.no_memory nine))

        part : (name : List ℕ) → call.page ≡ Some name → status ≡ 8 → (new.held ≡ old.held) ⊎ Holds call name old new ⊎ Loses call name old new
        part name asked eight = elim (runs.write_fault eight) [
          | inl some ↦ elim (left_own name asked (some_left some)) [
            | inl same ↦ inl same
            | inr holds ↦ inr (inl holds)
          ]
          | inr lost ↦ inr (inr (own_loss lost.0 name asked (lost_page lost.0 lost.1)))
        ]

-- help keeps nothing, so it loses nothing
module _ (program : List ℕ) (old new : ShelfTells) where
  none_left : HoldsSome (help_of program) old new → new.held ≡ old.held
  none_left (inl same) = same
  none_left (inr some) = some.1.4

  help_left : (status : ℕ) (j k : SinkTells) → Runs (help_of program) old new status j k → new.held ≡ old.held
  help_left status j k runs = elim (left (help_of program) old new runs.answer.0 runs.answer.1) [
    | inl some ↦ none_left some
    | inr lost ↦ absurd lost.2.1.4
  ]

module _ (words : List (List ℕ)) (old new : ShelfTells) (status : ℕ) (j k : SinkTells) where
  pub shown_call : (call : Shows) → call_of words ≡ Some (Show call) → Runs (show_of call) old new status j k
      → CallAnswers words old new status j k
  shown_call call taken runs = record {
    answer = inl (subst (λ o. Does o old new status j k) (sym taken) runs);
    only_usage = λ none. absurd (none-some (Show call) (sym none ∙ taken));
    failed_keep = λ rose name last.
        let lost = runs.failed_keep rose name last in
        (lost.0, some_and (λ c. HasLost c name old new) (call_of words) (Show call) taken (lost_page call old new name lost.1));
    leaves = if_some (λ c. Leaves c status old new) (call_of words) (Show call) taken (page_left call old new status j k runs);
  }

  pub helped_call : (program : List ℕ) → call_of words ≡ Some (Help program) → Runs (help_of program) old new status j k
      → CallAnswers words old new status j k
  helped_call program taken runs = record {
    answer = inl (subst (λ o. Does o old new status j k) (sym taken) runs);
    only_usage = λ none. absurd (none-some (Help program) (sym none ∙ taken));
    failed_keep = λ rose name last. absurd (runs.failed_keep rose name last).1.1.4;
    leaves = if_some (λ c. Leaves c status old new) (call_of words) (Help program) taken (help_left program old new status j k runs);
  }

  unchanged : new ≡ old → new.faults ≢ old.faults → ⊥
  unchanged same rose = rose (ap (λ (x : ShelfTells). x.faults) same)

module _ (words : List (List ℕ)) (held : Option Files) (status : ℕ) (j k : SinkTells) where
  pub shown_told : (call : Shows) → call_of words ≡ Some (Show call)
      → IfSome held (λ files. RunsOver (show_of call) (texts_under files (show_of call).inputs) status j k)
      → IfTold words held (λ call files. ToldAnswers call files status j k)
  shown_told call taken told = if_some (λ c. IfSome held (λ files. ToldAnswers c files status j k)) (call_of words) (Show call) taken
      (for_told held (λ files over. record {
        answer = over.answer;
        exactly = λ a is. over.exactly a (only_shown call (bytes_at files call.program) (bytes_at files call.file) a is);
      }) told)

  pub helped_told : (program : List ℕ) → call_of words ≡ Some (Help program)
      → IfSome held (λ files. RunsOver (help_of program) (texts_under files (help_of program).inputs) status j k)
      → IfTold words held (λ call files. ToldAnswers call files status j k)
  helped_told program taken told = if_some (λ c. IfSome held (λ files. ToldAnswers c files status j k)) (call_of words) (Help program) taken
      (for_told held (λ files over. record {
        answer = over.answer;
        exactly = λ a is. over.exactly a (only_help program (bytes_at files program) a is);
      }) told)

  faulty : {A : Type 0} (m : Meaning A) (t : Texts) → IsFaultStatus status → PutsAnswer m t status j k
  faulty m t fault = record { answer = λ sound. absurd (sound fault); exactly = λ a is. inr fault }

  faulty_call : IsFaultStatus status → (call : Asked) (files : Files) → ToldAnswers call files status j k
  faulty_call fault (Help name) files = faulty (help_of name) _ fault
  faulty_call fault (Show call) files = faulty (show_of call) _ fault

  pub unheard_told : SaysNoMemory status j k → IfTold words held (λ call files. ToldAnswers call files status j k)
  unheard_told says =
      if_any (λ c. IfSome held (λ files. ToldAnswers c files status j k)) (call_of words)
      (λ call. all_told (λ files. ToldAnswers call files status j k) held (faulty_call (inr (no_memory_status status j k says)) call))
