-- From a run over known files to how it ended: with a result, a refusal, a limit or a fault.
use Rattle.std.proofs.Common.{arith, ◌≡◌, ◌⊎◌, inl, inr, ap, refl, sym, subst, ◌∙◌, ℕ, ◌≤◌, List, Option, Some, Result, Ok, Err}
use Rattle.command_inputs.specs.tc_io.Outside.{Files, ShelfTells, SinkTells, Wrote}
use Rattle.command_inputs.specs.command_frame.Answers.{Answer, Gives, ReadFault, TooLong, WriteFault, NoMemory, IsFaultStatus, Puts, number_of}
use Rattle.command_inputs.specs.command_frame.Causes.{IsAnswerTo}
use Rattle.command_inputs.specs.command_frame.End.{End, TellsLimit}
use Rattle.command_inputs.specs.command_frame.Inputs.{IsTooLong, Limit, Texts, Wanted, texts_under}
use Rattle.command_inputs.specs.command_frame.Keeps.{put_all}
use Rattle.command_inputs.specs.command_frame.Meaning.{Meaning}
use Rattle.command_inputs.specs.command_frame.Run.{Runs, kept_by}
use Rattle.command_inputs.specs.command_frame.declared.status.Status.{Status}
use Rattle.command_inputs.specs.command_frame.declared.status.Status.TheVariants as statuses
use Rattle.command_inputs.proofs.command_frame.ReadAll.{long_or_within, one_too_long}
use Rattle.command_inputs.proofs.command_frame.Statuses.{fault_or_not, kept_whole, same_status}
use Rattle.command_inputs.specs.Refusals.{refusal_said}
use Rattle.command_inputs.specs.declared.refusal.Refusal.{Refusal}
use Rattle.command_inputs.specs.declared.refusal.Refusal.TheVariants as refusal
use Rattle.command_inputs.specs.command_ends.Ends.{AreShort, Declines, HasDeclined, TellsRefusal}
use Rattle.command_inputs.specs.command_ends.Outcomes.{Report, command_of}

-- the statuses of results
abbrev pub IsOfResults : Status → Type 0
IsOfResults statuses.Done = Unit {0}
IsOfResults statuses.Fails = Unit {0}
IsOfResults statuses.Open = Unit {0}
IsOfResults _ = ⊥

-- they aren't among those of refusals, limits and faults
abbrev IsOther : ℕ → Type 0
IsOther n = (3 ≤ n) × (n ≤ 9)

is_other : (k n : ℕ) → 3 ≤ k → k ≤ 9 → n ≡ k → IsOther n
is_other k n low high e = (omega (arith, low, e), omega (arith, high, e))

of_results : (s : Status) → IsOfResults s → IsOther (number_of s) → ⊥
of_results statuses.Done is other = let low : 3 ≤ 0 = other.0 in omega (arith, low)
of_results statuses.Fails is other = let low : 3 ≤ 1 = other.0 in omega (arith, low)
of_results statuses.Open is other = let high : 10 ≤ 9 = other.1 in omega (arith, high)
of_results _ is other = absurd is

of_refusal : (n : ℕ) (r : Refusal) → n ≡ number_of (refusal_said r).0 → IsOther n
of_refusal n (refusal.Program _) e = is_other 3 n (omega arith) (omega arith) e
of_refusal n (refusal.Log _) e = is_other 4 n (omega arith) (omega arith) e
of_refusal n (refusal.LogOver _ _) e = is_other 6 n (omega arith) (omega arith) e
of_refusal n (refusal.Schedule _) e = is_other 5 n (omega arith) (omega arith) e
of_refusal n (refusal.Refutation _) e = is_other 5 n (omega arith) (omega arith) e
of_refusal n (refusal.Answer _) e = is_other 5 n (omega arith) (omega arith) e

of_fault : (n : ℕ) → IsFaultStatus n → IsOther n
of_fault n (inl e) = is_other 7 n (omega arith) (omega arith) e
of_fault n (inr (inl e)) = is_other 8 n (omega arith) (omega arith) e
of_fault n (inr (inr e)) = is_other 9 n (omega arith) (omega arith) e

module _ {R : Type 0} (inputs : List Wanted) (ComesOf : Texts → Result R Refusal → Type 0) (report : Report R) (files : Files) where
  abbrev m : Meaning (Result R Refusal)
  m = command_of inputs ComesOf report

  abbrev t : Texts
  t = texts_under files inputs

  abbrev IsRefused : Refusal → Type 0
  IsRefused r = ComesOf t (Err r)

  -- the call ended with this result of the files
  pub record Reports (e : End) (x : R) : Type 0 where
    pub short : AreShort inputs files
    pub comes : ComesOf t (Ok x)
    pub status : e.status ≡ number_of (report.status_of x)
    pub held : e.held ≡ put_all (report.keeps_of x) (Some files)
    pub wrote : Wrote e.before e.after (report.line_of x)

  module _ (old new : ShelfTells) (number : ℕ) (before after : SinkTells) (told : old.held ≡ Some files) (runs : Runs m old new number before after) where
    abbrev e : End
    e = record { status = number; held = new.held; before = before; after = after }

    abbrev Refuses : Refusal → Type 0
    Refuses r = AreShort inputs files × IsRefused r × TellsRefusal files e r

    abbrev Limits : Limit → Type 0
    Limits limit = IsTooLong inputs t limit × TellsLimit files e limit

    answered : (a : Answer (Result R Refusal)) → IsAnswerTo m t a → Puts m a number before after → new.held ≡ put_all (kept_by m a) (Some files)
        → ((x : R) × Reports e x) ⊎ ((r : Refusal) × Refuses r) ⊎ ((limit : Limit) × Limits limit)
    answered (Gives (Ok x)) is puts held =
        inl (x, record { short = is.0; comes = is.1; status = puts.2; held = held; wrote = subst (Wrote before after) puts.1 puts.3 })
    answered (Gives (Err r)) is puts held = inr (inl (r, (is.0, is.1, (puts.2, (held, subst (Wrote before after) puts.1 puts.3)))))
    answered (TooLong limit) is puts held = inr (inr (limit, (is, (puts.2, (held, subst (Wrote before after) puts.1 puts.3)))))
    answered (ReadFault name) is puts held = absurd is
    answered (WriteFault name) is puts held = absurd is
    answered NoMemory is puts held = absurd is

    ended : ((x : R) × Reports e x) ⊎ ((r : Refusal) × Refuses r) ⊎ ((limit : Limit) × Limits limit) ⊎ IsFaultStatus number
    ended = elim (fault_or_not number) [
      | inl fault ↦ inr (inr (inr fault))
      | inr sound ↦ (let whole = kept_whole m files old new number before after told runs sound in
          elim (answered whole.0 whole.1 whole.2 whole.3) [
            | inl result ↦ inl result
            | inr (inl refused) ↦ inr (inl refused)
            | inr (inr limit) ↦ inr (inr (inl limit))
          ])
    ]

    -- with the status of a result, the call ended with a result of this status
    pub result_at : (s : Status) → IsOfResults s → number ≡ number_of s → (x : R) × (report.status_of x ≡ s) × Reports e x
    result_at s of is = elim ended [
      | inl x ↦ (x.0, same_status (report.status_of x.0) s (sym x.1.status ∙ is), x.1)
      | inr (inl r) ↦ absurd (of_results s of (subst IsOther is (of_refusal number r.0 r.1.2.0)))
      | inr (inr (inl l)) ↦ absurd (of_results s of (subst IsOther is (is_other 6 number (omega arith) (omega arith) l.1.1.0)))
      | inr (inr (inr fault)) ↦ absurd (of_results s of (subst IsOther is (of_fault number fault)))
    ]

    -- the call ended with a result, or it declined
    pub reported_or_declined : ((x : R) × Reports e x) ⊎ HasDeclined inputs IsRefused files e
    reported_or_declined = elim ended [
      | inl x ↦ inl x
      | inr (inl r) ↦ inr (inr (inl (r.0, r.1.1, r.1.2)))
      | inr (inr (inl l)) ↦ inr (inl (l.0, l.1.0, l.1.1))
      | inr (inr (inr fault)) ↦ inr (inr (inr fault))
    ]

    -- files that aren't refused have a result, but for devices and memory
    pub reported : AreShort inputs files → ((r : Refusal) → IsRefused r → ⊥) → ((x : R) × Reports e x) ⊎ IsFaultStatus number
    reported short none = elim ended [
      | inl x ↦ inl x
      | inr (inl r) ↦ absurd (none r.0 r.1.1)
      | inr (inr (inl l)) ↦ absurd (long_or_within inputs t l.0 l.1.0 short)
      | inr (inr (inr fault)) ↦ inr fault
    ]

    -- if there is one refusal at most, and none where there is a result
    module _ (one : (r q : Refusal) → IsRefused r → IsRefused q → r ≡ q) (no_result : (r : Refusal) (x : R) → IsRefused r → ComesOf t (Ok x) → ⊥) where
      pub declines : Declines inputs IsRefused files e
      declines = record { long = long; refused = refused }
        where
          long : (limit : Limit) → IsTooLong inputs t limit → TellsLimit files e limit ⊎ IsFaultStatus number
          long limit is = elim ended [
            | inl x ↦ absurd (long_or_within inputs t limit is x.1.short)
            | inr (inl r) ↦ absurd (long_or_within inputs t limit is r.1.0)
            | inr (inr (inl l)) ↦ inl (subst (TellsLimit files e) (one_too_long inputs t l.0 limit l.1.0 is) l.1.1)
            | inr (inr (inr fault)) ↦ inr fault
          ]

          refused : (r : Refusal) → AreShort inputs files → IsRefused r → TellsRefusal files e r ⊎ IsFaultStatus number
          refused r short is = elim ended [
            | inl x ↦ absurd (no_result r x.0 is x.1.comes)
            | inr (inl q) ↦ inl (subst (TellsRefusal files e) (one q.0 r q.1.1 is) q.1.2)
            | inr (inr (inl l)) ↦ absurd (long_or_within inputs t l.0 l.1.0 short)
            | inr (inr (inr fault)) ↦ inr fault
          ]
