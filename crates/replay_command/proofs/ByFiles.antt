-- From a run of `replay` over three known files to its answers by status.
use Rattle.std.proofs.Common.{◌≡◌, ◌≢◌, ◌∙◌, ◌⊎◌, inl, inr, ap, refl, sym, subst, ℕ, List, [], ◌∷◌, Option, Some, None, IfSome, Result, Ok, Err}
use Rattle.schedule_replay.specs.declared.verdict.Verdict.{Verdict}
use Rattle.schedule_replay.specs.declared.verdict.Verdict.TheVariants as verdict
use Rattle.command_inputs.specs.tc_compile.Programs.{IsRefusal}
use Rattle.tc_io.specs.Outside.{Files, SinkTells, Wrote, bytes_at}
use Rattle.command_inputs.specs.tc_parser.declared.fault.TextFault.{TextFault}
use Rattle.command_frame.specs.Answers.{IsFaultStatus, number_of}
use Rattle.command_frame.specs.ByStatus.{Decides}
use Rattle.command_frame.specs.Inputs.{Texts}
use Rattle.command_frame.specs.Meaning.{Meaning}
use Rattle.command_frame.specs.Run.{RunsOver}
use Rattle.command_frame.specs.declared.status.Status.{Status}
use Rattle.command_frame.specs.declared.status.Status.TheVariants as status
use Rattle.command_frame.proofs.Statuses.{any_status, at_limit, outcome_at, said_alike, status_is}
use Rattle.command_inputs.specs.Outcomes.{outcome_status, outcome_text}
use Rattle.command_inputs.specs.Refusals.{refusal_said}
use Rattle.command_inputs.specs.declared.refusal.LogRefusal.{LogRefusal}
use Rattle.command_inputs.specs.declared.refusal.Refusal.{Refusal}
use Rattle.command_inputs.specs.declared.refusal.Refusal.TheVariants as refusal
use Rattle.replay_command.specs.Answers.{ReplayAnswers}
use Rattle.replay_command.specs.Causes.{IsReplayed, IsUnreplayed}
use Rattle.replay_command.specs.Lines.{verdict_said}
use Rattle.replay_command.specs.Meanings.{replay_of}
use Rattle.replay_command.proofs.OneReplay.{IsReplay, one_replay}

-- the status of what comes of three files
abbrev ends : Result Verdict Refusal → Status
ends x = outcome_status (λ v. (verdict_said v).0) x

-- a verdict that says that the log is reproduced, and any other
abbrev IsGood : Verdict → Type 0
IsGood v = (v ≡ verdict.Reproduces) × ((verdict_said v).0 ≡ status.Done)

abbrev IsBad : Verdict → Type 0
IsBad v = (v ≢ verdict.Reproduces) × ((verdict_said v).0 ≡ status.Fails)

good_or_bad : (v : Verdict) → IsGood v ⊎ IsBad v
good_or_bad verdict.Reproduces = inl (refl, refl)
good_or_bad (verdict.Stops n reason) = inr (λ e. cc, refl)
good_or_bad verdict.NoFailure = inr (λ e. cc, refl)
good_or_bad verdict.NotStuck = inr (λ e. cc, refl)
good_or_bad (verdict.OtherFailure n) = inr (λ e. cc, refl)
good_or_bad (verdict.OtherPath n) = inr (λ e. cc, refl)

module _ (program log schedule : List ℕ) (j k : SinkTells) where
  -- what comes of the files, with its text put
  abbrev IsPut : Result Verdict Refusal → List ℕ → Type 0
  IsPut x text = IsReplay program log schedule x × (text ≡ outcome_text (λ v. (verdict_said v).1) x) × Wrote j k text

  -- the outcomes with each status
  done : (x : Result Verdict Refusal) (text : List ℕ) → ends x ≡ status.Done → IsPut x text
      → IsReplayed program log schedule verdict.Reproduces × Wrote j k (verdict_said verdict.Reproduces).1
  done (Ok v) text is put = elim (good_or_bad v) [
    | inl good ↦
        (subst (IsReplayed program log schedule) good.0 put.0, subst (λ w. Wrote j k (verdict_said w).1) good.0 (subst (Wrote j k) put.1 put.2))
    | inr bad ↦ absurd (let other : status.Fails ≡ status.Done = sym bad.1 ∙ is in cc)
  ]
  done (Err (refusal.Program fault)) text is put = absurd (let bad : status.ProgramRefused ≡ status.Done = is in cc)
  done (Err (refusal.Log r)) text is put = absurd (let bad : status.LogRefused ≡ status.Done = is in cc)
  done (Err (refusal.Schedule n)) text is put = absurd (let bad : status.InputRefused ≡ status.Done = is in cc)
  done (Err _) text is put = absurd put.0

  fails : (x : Result Verdict Refusal) (text : List ℕ) → ends x ≡ status.Fails → IsPut x text
      → (v : Verdict) × (v ≢ verdict.Reproduces) × IsReplayed program log schedule v × Wrote j k (verdict_said v).1
  fails (Ok v) text is put = elim (good_or_bad v) [
    | inl good ↦ absurd (let other : status.Done ≡ status.Fails = sym good.1 ∙ is in cc)
    | inr bad ↦ (v, bad.0, put.0, subst (Wrote j k) put.1 put.2)
  ]
  fails (Err (refusal.Program fault)) text is put = absurd (let bad : status.ProgramRefused ≡ status.Fails = is in cc)
  fails (Err (refusal.Log r)) text is put = absurd (let bad : status.LogRefused ≡ status.Fails = is in cc)
  fails (Err (refusal.Schedule n)) text is put = absurd (let bad : status.InputRefused ≡ status.Fails = is in cc)
  fails (Err _) text is put = absurd put.0

  -- a verdict has none of the statuses of refusals
  no_verdict : {P : Type 0} (v : Verdict) (s : Status) → (verdict_said v).0 ≡ s → s ≢ status.Done → s ≢ status.Fails → P
  no_verdict v s is no_done no_fails = elim (good_or_bad v) [
    | inl good ↦ absurd (no_done (sym is ∙ good.1))
    | inr bad ↦ absurd (no_fails (sym is ∙ bad.1))
  ]

  unread : (x : Result Verdict Refusal) (text : List ℕ) → ends x ≡ status.ProgramRefused → IsPut x text
      → (fault : TextFault) × IsRefusal program fault × Wrote j k (refusal_said (refusal.Program fault)).1
  unread (Ok v) text is put = no_verdict v status.ProgramRefused is (λ e. cc) (λ e. cc)
  unread (Err (refusal.Program fault)) text is put = (fault, put.0, subst (Wrote j k) put.1 put.2)
  unread (Err (refusal.Log r)) text is put = absurd (let bad : status.LogRefused ≡ status.ProgramRefused = is in cc)
  unread (Err (refusal.Schedule n)) text is put = absurd (let bad : status.InputRefused ≡ status.ProgramRefused = is in cc)
  unread (Err _) text is put = absurd put.0

  unlogged : (x : Result Verdict Refusal) (text : List ℕ) → ends x ≡ status.LogRefused → IsPut x text
      → (r : LogRefusal) × IsUnreplayed program log schedule (refusal.Log r) × Wrote j k (refusal_said (refusal.Log r)).1
  unlogged (Ok v) text is put = no_verdict v status.LogRefused is (λ e. cc) (λ e. cc)
  unlogged (Err (refusal.Log r)) text is put = (r, put.0, subst (Wrote j k) put.1 put.2)
  unlogged (Err (refusal.Program fault)) text is put = absurd (let bad : status.ProgramRefused ≡ status.LogRefused = is in cc)
  unlogged (Err (refusal.Schedule n)) text is put = absurd (let bad : status.InputRefused ≡ status.LogRefused = is in cc)
  unlogged (Err _) text is put = absurd put.0

  unplanned : (x : Result Verdict Refusal) (text : List ℕ) → ends x ≡ status.InputRefused → IsPut x text
      → (line : ℕ) × IsUnreplayed program log schedule (refusal.Schedule line) × Wrote j k (refusal_said (refusal.Schedule line)).1
  unplanned (Ok v) text is put = no_verdict v status.InputRefused is (λ e. cc) (λ e. cc)
  unplanned (Err (refusal.Schedule n)) text is put = (n, put.0, subst (Wrote j k) put.1 put.2)
  unplanned (Err (refusal.Program fault)) text is put = absurd (let bad : status.ProgramRefused ≡ status.InputRefused = is in cc)
  unplanned (Err (refusal.Log r)) text is put = absurd (let bad : status.LogRefused ≡ status.InputRefused = is in cc)
  unplanned (Err _) text is put = absurd put.0

  -- the statuses that there are
  any_ends : (x : Result Verdict Refusal) → IsReplay program log schedule x → (n : ℕ) → n ≡ number_of (ends x)
      → (n ≡ 0) ⊎ (n ≡ 1) ⊎ (n ≡ 3) ⊎ (n ≡ 4) ⊎ (n ≡ 5)
  any_ends (Ok v) comes n is = elim (good_or_bad v) [
    | inl good ↦ inl (is ∙ ap number_of good.1)
    | inr bad ↦ inr (inl (is ∙ ap number_of bad.1))
  ]
  any_ends (Err (refusal.Program fault)) comes n is = inr (inr (inl is))
  any_ends (Err (refusal.Log r)) comes n is = inr (inr (inr (inl is)))
  any_ends (Err (refusal.Schedule m)) comes n is = inr (inr (inr (inr is)))
  any_ends (Err _) comes n is = absurd comes

  module _ (p l s : List ℕ) (number : ℕ) (over : RunsOver (replay_of p l s) (program ∷ log ∷ schedule ∷ []) number j k) where
    abbrev t : Texts
    t = program ∷ log ∷ schedule ∷ []

    abbrev m : Meaning (Result Verdict Refusal)
    m = replay_of p l s

    decides : Decides m t
    decides one other f g = said_alike m one other (one_replay program log schedule one other f g)

    none_over : (x : Result Verdict Refusal) → IsReplay program log schedule x → ends x ≡ status.OverLimit → ⊥
    none_over (Ok v) comes is = no_verdict v status.OverLimit is (λ e. cc) (λ e. cc)
    none_over (Err (refusal.Program fault)) comes is = let bad : status.ProgramRefused ≡ status.OverLimit = is in cc
    none_over (Err (refusal.Log r)) comes is = let bad : status.LogRefused ≡ status.OverLimit = is in cc
    none_over (Err (refusal.Schedule n)) comes is = let bad : status.InputRefused ≡ status.OverLimit = is in cc
    none_over (Err _) comes is = comes

    alone : (number ≡ 0) ⊎ (number ≡ 1) ⊎ (number ≡ 3) ⊎ (number ≡ 4) ⊎ (number ≡ 5) ⊎ (number ≡ 6) ⊎ IsFaultStatus number
    alone = elim (any_status m t number j k over) [
      | inl limit ↦ inr (inr (inr (inr (inr (inl limit.0)))))
      | inr (inl put) ↦ elim (any_ends put.2.0 put.2.2 number (put.1 ∙ ap number_of (sym put.2.3))) [
        | inl zero ↦ inl zero
        | inr (inl one) ↦ inr (inl one)
        | inr (inr (inl three)) ↦ inr (inr (inl three))
        | inr (inr (inr (inl four))) ↦ inr (inr (inr (inl four)))
        | inr (inr (inr (inr five))) ↦ inr (inr (inr (inr (inl five))))
      ]
      | inr (inr fault) ↦ inr (inr (inr (inr (inr (inr fault)))))
    ]

    pub by_texts : ReplayAnswers program log schedule number j k
    by_texts = record {
      reproduces = λ is. let o = outcome_at m t number j k over status.Done tt is in done o.0 o.4 o.3 (o.2, o.5, o.6);
      differs = λ is. let o = outcome_at m t number j k over status.Fails tt is in fails o.0 o.4 o.3 (o.2, o.5, o.6);
      refused = λ is. let o = outcome_at m t number j k over status.ProgramRefused tt is in unread o.0 o.4 o.3 (o.2, o.5, o.6);
      log_refused = λ is. let o = outcome_at m t number j k over status.LogRefused tt is in unlogged o.0 o.4 o.3 (o.2, o.5, o.6);
      schedule_refused = λ is. let o = outcome_at m t number j k over status.InputRefused tt is in unplanned o.0 o.4 o.3 (o.2, o.5, o.6);
      limit = λ is. elim (at_limit m t number j k over is) [
        | inl told ↦ told
        | inr o ↦ absurd (none_over o.0 o.2 o.3)
      ];
      exactly = λ x short comes. status_is m t number j k over decides x short comes;
      alone = alone;
    }

-- where the shelf tells what it holds
pub by_files : (held : Option Files) (program log schedule : List ℕ) (number : ℕ) (j k : SinkTells)
    → IfSome held (λ files. RunsOver (replay_of program log schedule)
    (bytes_at files program ∷ bytes_at files log ∷ bytes_at files schedule ∷ []) number j k)
    → IfSome held (λ files. ReplayAnswers (bytes_at files program) (bytes_at files log) (bytes_at files schedule) number j k)
by_files None program log schedule number j k over = tt
by_files (Some files) program log schedule number j k over =
    by_texts (bytes_at files program) (bytes_at files log) (bytes_at files schedule) j k program log schedule number over
