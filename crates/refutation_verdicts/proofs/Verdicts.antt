-- A checker's verdict, and the line and the status that it has.
use Rattle.std.proofs.Common.{◌≡◌, ◌∙◌, ◌⊎◌, inl, inr, ap, refl, sym, ℕ, List, [], Result, Ok, Err}
use Rattle.refute_check.specs.declared.verdict.CheckFault.{CheckFault}
use Rattle.refute_check.specs.declared.verdict.Checked.{Checked}
use Rattle.command_inputs.specs.command_ends.Outcomes.{outcome_keeps}
use Rattle.command_frame.specs.Answers.{number_of}
use Rattle.command_frame.specs.Keeps.{Keep}
use Rattle.command_inputs.specs.declared.refusal.Refusal.{Refusal}
use Rattle.refutation_verdicts.specs.Verdicts.{IsVerdict, found_status, verdict_status}
use Rattle.refutation_verdicts.specs.declared.verdict.Verdict.{Verdict}
use Rattle.refutation_verdicts.specs.declared.verdict.Verdict.TheVariants.{Closed, Open, LineRefused}

-- the same verdict of a checker that found the same, if closed lines show something else
pub verdict_for : {A : Type 0} (P Q : A → Type 0) (found same : Result Checked CheckFault) → found ≡ same → ((x : A) → P x → Q x) → (v : Verdict A)
    → IsVerdict P found v → IsVerdict Q same v
verdict_for P Q found same e more (Closed x) h = (sym e ∙ h.0, more x h.1)
verdict_for P Q found same e more Open h = sym e ∙ h
verdict_for P Q found same e more (LineRefused n) h = (h.0, sym e ∙ h.1, h.2)

-- the status of a verdict is that of what the checker found
pub status_found : {A : Type 0} (P : A → Type 0) (found : Result Checked CheckFault) (v : Verdict A) → IsVerdict P found v
    → verdict_status v ≡ found_status found
status_found P found (Closed x) h = sym (ap found_status h.0)
status_found P found Open h = sym (ap found_status h)
status_found P found (LineRefused n) h = sym (ap found_status h.1)

-- the status of a verdict is one of three
pub any_status : {A : Type 0} (n : ℕ) (v : Verdict A) → n ≡ number_of (verdict_status v) → (n ≡ 0) ⊎ (n ≡ 1) ⊎ (n ≡ 10)
any_status n (Closed x) e = inl e
any_status n Open e = inr (inr e)
any_status n (LineRefused line) e = inr (inl e)

-- nothing is kept of a verdict, nor of a refusal
pub nothing_kept : {A : Type 0} (x : Result A Refusal) → ◌≡◌ {A = List Keep} [] (outcome_keeps (λ _. []) x)
nothing_kept (Ok v) = refl
nothing_kept (Err why) = refl
