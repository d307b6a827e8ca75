-- From a run over known inputs to what it puts, by status.
use Rattle.std.proofs.Common.{arith, ◌≡◌, ◌∙◌, ◌⊎◌, inl, inr, ap, refl, sym, subst, ℕ, zero, suc, ◌≤◌, Some}
use Rattle.std.specs.Prelude.{nat_eq, if◌then◌else◌}
use Rattle.tc_io.specs.Outside.{Files, ShelfTells, SinkTells, Wrote}
use Rattle.command_frame.specs.Inputs.{AreWithin, Texts, texts_under}
use Rattle.command_frame.specs.Keeps.{put_all}
use Rattle.command_frame.specs.Meaning.{Meaning}
use Rattle.command_frame.specs.Answers.{Answer, Gives, ReadFault, TooLong, WriteFault, NoMemory, IsFaultStatus, Puts, number_of}
use Rattle.command_frame.specs.Causes.{IsAnswerTo, IsOnlyAnswer, IsSaidAs}
use Rattle.command_frame.specs.Run.{Runs, RunsOver, kept_by}
use Rattle.command_frame.specs.ByStatus.{Decides, IsStatus, PutsLimit, PutsOutcome}
use Rattle.command_frame.proofs.AllRuns.{answers_to, same_fault}
use Rattle.command_frame.specs.declared.status.Status.{Status}
use Rattle.command_frame.specs.declared.status.Status.TheVariants as status

is_or_not : (m n : ℕ) → (m ≡ n) ⊎ (m ≡ n → ⊥)
is_or_not zero zero = inl refl
is_or_not zero (suc n) = inr (λ e. omega (arith, e))
is_or_not (suc m) zero = inr (λ e. omega (arith, e))
is_or_not (suc m) (suc n) = elim (is_or_not m n) [
  | inl e ↦ inl (ap suc e)
  | inr other ↦ inr (λ e. other (omega (arith, e)))
]

-- a status is one of a fault or it isn't
pub fault_or_not : (status : ℕ) → IsFaultStatus status ⊎ (IsFaultStatus status → ⊥)
fault_or_not status = elim (is_or_not status 7) [
  | inl seven ↦ inl (inl seven)
  | inr no7 ↦ elim (is_or_not status 8) [
    | inl eight ↦ inl (inr (inl eight))
    | inr no8 ↦ elim (is_or_not status 9) [
      | inl nine ↦ inl (inr (inr nine))
      | inr no9 ↦ inr (elim [
        | inl seven ↦ no7 seven
        | inr (inl eight) ↦ no8 eight
        | inr (inr nine) ↦ no9 nine
      ])
    ]
  ]
]

-- no two statuses have one number
abbrev of_number : ℕ → Status
of_number n = if nat_eq n 0 then status.Done else if nat_eq n 1 then status.Fails else if nat_eq n 2 then status.Usage
    else if nat_eq n 3 then status.ProgramRefused else if nat_eq n 4 then status.LogRefused else if nat_eq n 5 then status.InputRefused
    else if nat_eq n 6 then status.OverLimit else if nat_eq n 7 then status.ReadFault else if nat_eq n 8 then status.WriteFault
    else if nat_eq n 9 then status.NoMemory else status.Open

back : (s : Status) → of_number (number_of s) ≡ s
back status.Done = refl
back status.Fails = refl
back status.Usage = refl
back status.ProgramRefused = refl
back status.LogRefused = refl
back status.InputRefused = refl
back status.OverLimit = refl
back status.ReadFault = refl
back status.WriteFault = refl
back status.NoMemory = refl
back status.Open = refl

-- the statuses that outcomes alone have
abbrev pub IsOfOutcomes : Status → Type 0
IsOfOutcomes status.OverLimit = ⊥
IsOfOutcomes status.ReadFault = ⊥
IsOfOutcomes status.WriteFault = ⊥
IsOfOutcomes status.NoMemory = ⊥
IsOfOutcomes _ = Unit {0}

fault_range : (n : ℕ) → IsFaultStatus n → (7 ≤ n) × (n ≤ 9)
fault_range n (inl seven) = (omega (arith, seven), omega (arith, seven))
fault_range n (inr (inl eight)) = (omega (arith, eight), omega (arith, eight))
fault_range n (inr (inr nine)) = (omega (arith, nine), omega (arith, nine))

-- they are none of a fault, nor that of a limit
of_none : (s : Status) → IsOfOutcomes s → (IsFaultStatus (number_of s) → ⊥) × (number_of s ≡ 6 → ⊥)
of_none status.Done h = (λ f. let r = fault_range 0 f in omega (arith, r.0), λ e. omega (arith, e))
of_none status.Fails h = (λ f. let r = fault_range 1 f in omega (arith, r.0), λ e. omega (arith, e))
of_none status.Usage h = (λ f. let r = fault_range 2 f in omega (arith, r.0), λ e. omega (arith, e))
of_none status.ProgramRefused h = (λ f. let r = fault_range 3 f in omega (arith, r.0), λ e. omega (arith, e))
of_none status.LogRefused h = (λ f. let r = fault_range 4 f in omega (arith, r.0), λ e. omega (arith, e))
of_none status.InputRefused h = (λ f. let r = fault_range 5 f in omega (arith, r.0), λ e. omega (arith, e))
of_none status.Open h = (λ f. let r = fault_range 10 f in omega (arith, r.1), λ e. omega (arith, e))
of_none status.OverLimit h = absurd h
of_none status.ReadFault h = absurd h
of_none status.WriteFault h = absurd h
of_none status.NoMemory h = absurd h

pub same_status : (a b : Status) → number_of a ≡ number_of b → a ≡ b
same_status a b e = sym (back a) ∙ ap of_number e ∙ back b

module _ {A : Type 0} (m : Meaning A) (t : Texts) (number : ℕ) (j k : SinkTells) (over : RunsOver m t number j k) where
  -- an outcome that was put
  outcome_put : (x : A) → IsAnswerTo m t (Gives x) → Puts m (Gives x) number j k → PutsOutcome m t (m.status_of x) j k
  outcome_put x is puts = (x, is.0, is.1, refl, puts.0, puts.1, puts.3)

  -- what was put, if no device failed and there was memory
  put : (IsFaultStatus number → ⊥) → ((number ≡ 6) × PutsLimit m t j k) ⊎ ((s : Status) × (number ≡ number_of s) × PutsOutcome m t s j k)
  put sound = let told = over.answer sound in by told.0 told.1 told.2
    where
      by : (a : Answer A) → IsAnswerTo m t a → Puts m a number j k
          → ((number ≡ 6) × PutsLimit m t j k) ⊎ ((s : Status) × (number ≡ number_of s) × PutsOutcome m t s j k)
      by (Gives x) is puts = inr (m.status_of x, puts.2, outcome_put x is puts)
      by (TooLong limit) is puts = inl (puts.2, (limit, is, subst (Wrote j k) puts.1 puts.3))
      by (ReadFault name) is puts = absurd is
      by (WriteFault name) is puts = absurd is
      by NoMemory is puts = absurd is

  -- a limit was told, an outcome was put, or the status is that of a fault
  pub any_status : ((number ≡ 6) × PutsLimit m t j k) ⊎ ((s : Status) × (number ≡ number_of s) × PutsOutcome m t s j k) ⊎ IsFaultStatus number
  any_status = elim (fault_or_not number) [
    | inl fault ↦ inr (inr fault)
    | inr sound ↦ elim (put sound) [
      | inl limit ↦ inl limit
      | inr outcome ↦ inr (inl outcome)
    ]
  ]

  -- with this status, which is none of a fault, an outcome with it was put, or a limit was told
  at_status : (s : Status) → number ≡ number_of s → (IsFaultStatus (number_of s) → ⊥)
      → PutsOutcome m t s j k ⊎ ((number_of s ≡ 6) × PutsLimit m t j k)
  at_status s is sound = elim (put (λ h. sound (subst IsFaultStatus is h))) [
    | inl limit ↦ inr (sym is ∙ limit.0, limit.1)
    | inr outcome ↦ inl (subst (λ o. PutsOutcome m t o j k) (same_status outcome.0 s (sym outcome.1 ∙ is)) outcome.2)
  ]

  pub outcome_at : (s : Status) → IsOfOutcomes s → number ≡ number_of s → PutsOutcome m t s j k
  outcome_at s of is = elim (at_status s is (of_none s of).0) [
    | inl outcome ↦ outcome
    | inr limit ↦ absurd ((of_none s of).1 limit.0)
  ]

  -- with that of a limit, a limit was told or an outcome with it was put
  pub at_limit : number ≡ 6 → PutsLimit m t j k ⊎ PutsOutcome m t status.OverLimit j k
  at_limit six = elim (at_status status.OverLimit six (λ f. let r = fault_range 6 f in omega (arith, r.0))) [
    | inl outcome ↦ inr outcome
    | inr limit ↦ inl limit.1
  ]

  module _ (decides : Decides m t) where
    only : (a : Answer A) → IsAnswerTo m t a → IsOnlyAnswer m t a
    only (Gives x) is = (is.0, is.1, λ other comes. decides x other is.1 comes)
    only (TooLong limit) is = is
    only (ReadFault name) is = is
    only (WriteFault name) is = is
    only NoMemory is = is

    -- what comes of the bytes was put, or the status is that of a fault
    pub status_is : (x : A) → AreWithin m.inputs t → m.ComesOf t x → IsStatus number (number_of (m.status_of x))
    status_is x within comes = elim (over.exactly (Gives x) (only (Gives x) (within, comes))) [
      | inl puts ↦ inl puts.2
      | inr fault ↦ inr fault
    ]

-- but for devices and memory, what a run over known files answers is an answer to them, and what it keeps is held
pub kept_whole : {A : Type 0} (m : Meaning A) (files : Files) (old new : ShelfTells) (number : ℕ) (j k : SinkTells) → old.held ≡ Some files
    → Runs m old new number j k → (IsFaultStatus number → ⊥)
    → (a : Answer A) × IsAnswerTo m (texts_under files m.inputs) a × Puts m a number j k × (new.held ≡ put_all (kept_by m a) (Some files))
kept_whole m files old new number j k told runs sound =
    let whole = runs.whole (λ h. sound (inr (inl h))) (λ h. sound (inr (inr h))) in
    elim (answers_to m old new files told whole.0 whole.1) [
      | inl is ↦ (whole.0, is, whole.2, whole.3 ∙ ap (put_all (kept_by m whole.0)) told)
      | inr fault ↦ absurd (sound (same_fault m whole.0 number whole.2.2 fault))
    ]

-- equal outcomes are said alike
pub said_alike : {A : Type 0} (m : Meaning A) (one other : A) → one ≡ other → IsSaidAs m one other
said_alike m one other e = subst (IsSaidAs m one) e (record { text = λ text h. h; status = refl })
