-- From a certificate that was read to its end to the verdict on it.
use Rattle.std.proofs.Common.{◌≡◌, ◌∙◌, ℕ, ℤ, Bool, true, false, cond, ◌&&◌, List, [], ◌∷◌, Result, Ok, Err, inl, refl, sym, ap}
use Rattle.std.specs.List.{fold}
use Rattle.std.proofs.lemmas.Bool.{false≢true, and_parts}
use Rattle.refute_check.specs.cnf_core.Clauses.{Formula}
use Rattle.run_log.specs.Logs.{Log}
use Rattle.tc_code.specs.Code.{Code}
use Rattle.tc_code.specs.Lawful.{IsLawful}
use Rattle.refute_check.specs.Refutations.{Checking, IsClosed, keep, opening, verdict as verdict_on}
use Rattle.refute_check.specs.declared.verdict.CheckFault.{CheckFault}
use Rattle.refute_check.specs.declared.verdict.Checked.{Checked}
use Rattle.refute_check.specs.declared.verdict.Checked.TheVariants as checked
use Rattle.certified_logs.specs.find_failures.clap_solve.Clauses.{model_clauses}
use Rattle.certified_logs.specs.find_failures.LeftOut.{is_over}
use Rattle.log_walk.specs.declared.bounds.LeftOut.{LeftOut}
use Rattle.none_certificates.specs.declared.header.Header.{Header}
use Rattle.certified_logs.specs.Logs.{IsNext}
use Rattle.slot_liveness.specs.pure_turns.Live.{Liveness, IsClosed as IsLive}
use Rattle.certified_logs.specs.Places.{AllAreDone}
use Rattle.certified_logs.proofs.Promised.{all_refuted, none_runs}
use Rattle.certificate_input.specs.Checked.{IsChecked, IsOpen}
use Rattle.certificate_input.specs.Checked.IsLineRefused.{ByLine, ByHeader}
use Rattle.certificate_input.specs.Cuts.{HasHeader}
use Rattle.certificate_input.specs.Wrong.{IsWrong}
use Rattle.certificate_input.specs.declared.verdict.Verdict.TheVariants as verdict
use Rattle.certificate_input.specs.declared.wrong.Wrong.{Wrong}
use Rattle.certificate_input.specs.declared.wrong.Wrong.TheVariants.{Refused, Form, Limit}
use Rattle.certificate_input.specs.helpers.Incoming.{IsUnrefuted, ended, judged}

-- before any line nothing is closed
starts_open : (cs : List (List ℤ)) (s : Checking) → verdict_on (fold keep s cs) ≡ verdict_on s
starts_open [] s = refl
starts_open (c ∷ cs) s = starts_open cs (keep s c)

open_is_not : checked.Open ≡ checked.Closed → ⊥
open_is_not e = false≢true (ap is_closed e)
  where
    is_closed : Checked → Bool
    is_closed checked.Closed = true
    is_closed checked.Open = false

not_closed_yet : (f : Formula) → IsClosed f [] → ⊥
not_closed_yet f closed = open_is_not (ap found (sym (starts_open f.clauses (opening f.vars)) ∙ closed))
  where
    found : Result Checked CheckFault → Checked
    found (Ok x) = x
    found (Err e) = checked.Open

module _ (code : Code) (bytes : List ℕ) where
  pub open_so : (h : Header) → HasHeader bytes h → IsUnrefuted code h → IsOpen code bytes
  open_so h has is = record { header = h; has = has; log = is.log; next = is.next; lines = is.lines; unclosed = is.unclosed }

  pub next_open : (h : Header) → HasHeader bytes h → (log : Log) → IsNext code h log → IsOpen code bytes
  next_open h has log next =
      record { header = h; has = has; log = log; next = next; lines = []; unclosed = not_closed_yet (model_clauses h.model code log) }

  -- the verdict if each log is refuted, except those left out
  pub judged_so : IsLawful code → (h : Header) (out : LeftOut) → HasHeader bytes h
      → (live : Liveness) → IsLive code live → AllAreDone code live h out → IsChecked code bytes (judged h out)
  judged_so lawful h out has live closed done = by_over (is_over out) refl
    where
      by_whole : (b : Bool) → (h.whole && out.outcomes) ≡ b → is_over out ≡ false
          → IsChecked code bytes (cond b (verdict.LineRefused 1) (verdict.Holds h))
      by_whole true is over =
          let parts = and_parts h.whole out.outcomes is in
          ByHeader h refl has (record { whole = parts.0; out = out; cut = parts.1; done = all_refuted code live closed h out done })
      by_whole false is over = (has, none_runs code lawful live closed h out done over is)

      by_over : (b : Bool) → is_over out ≡ b
          → IsChecked code bytes (cond b (verdict.LeftOut out) (cond (h.whole && out.outcomes) (verdict.LineRefused 1) (verdict.Holds h)))
      by_over true over = (h, has, over, all_refuted code live closed h out done)
      by_over false over = by_whole (h.whole && out.outcomes) refl over

  -- the verdict on one with a wrong line
  pub ended_so : (n : ℕ) (w : Wrong) → IsWrong code bytes n w → IsChecked code bytes (ended n w)
  ended_so n Refused is = ByLine is
  ended_so n Form is = inl is
  ended_so n (Limit which count limit) is = (n, is)
