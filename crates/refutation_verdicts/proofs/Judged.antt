-- A refutation is judged, or there is one reason why it isn't.
use Rattle.std.proofs.Common.{◌≡◌, ◌∙◌, ℕ, true, List, [], ◌∷◌, ap, refl, sym, subst}
use Rattle.command_inputs.proofs.path_log.Logs.{log_or_fault}
use Rattle.refute_check.proofs.Cuts.{Step}
use Rattle.refute_check.proofs.Pieces.{broken-is-no-text}
use Rattle.refute_check.proofs.Wholes.{reads-agree, text-has-one-value}
use Rattle.refute_check.specs.Broken.{BreaksAt}
use Rattle.refute_check.specs.Reading.{Reading, Reads, beginning, first_breach}
use Rattle.refute_check.specs.Refutations.{check}
use Rattle.refute_check.specs.declared.head.Head.{Head}
use Rattle.refute_check.specs.declared.line.Line.{Line}
use Rattle.log_tasks.specs.run_log.Logs.{StoredLog}
use Rattle.command_inputs.proofs.tc_compile.OnePrograms.{refused_no_code}
use Rattle.std.specs.Prelude.{is_some, nat_eq}
use Rattle.std.proofs.lemmas.Option.{same_Some}
use Rattle.command_inputs.specs.Forms.{IsUnread}
use Rattle.command_inputs.specs.declared.refusal.LogRefusal.TheVariants.{Form}
use Rattle.command_inputs.specs.declared.refusal.Refusal.{Refusal}
use Rattle.command_inputs.specs.declared.refusal.Refusal.TheVariants as refusal
use Rattle.log_tasks.proofs.Tasks.{at_pair, one_unsearched, task_or_refusal}
use Rattle.log_tasks.specs.Refused.{IsUnsearched}
use Rattle.log_tasks.specs.Tasks.{Task}
use Rattle.refutation_verdicts.specs.Causes.{IsUnjudged}
use Rattle.refutation_verdicts.specs.Refutations.{Refutation, clauses_under, head_clauses}

-- after a fault the rest isn't read
pub stays : (bytes : List ℕ) (s : Reading) → is_some s.fault ≡ true → Reads s bytes [] s
stays [] s e = (refl, refl)
stays (b ∷ bs) s e = subst (λ f. Step f (nat_eq b 10) s b bs [] s) (sym e) (refl, refl)

module _ (program log : List ℕ) (HasForm : Type 0) (BreaksForm : ℕ → Type 0) where
  abbrev IsRefused : Refusal → Type 0
  IsRefused = IsUnjudged program log HasForm BreaksForm

  -- a program or a log is refused that isn't of its form, whatever the third file is
  pub unread_unjudged : (r : Refusal) → IsUnread program log r → IsRefused r
  unread_unjudged (refusal.Program _) h = h
  unread_unjudged (refusal.Log (Form _)) h = h
  unread_unjudged _ h = absurd h

  -- a log without clauses of this program is refused, if the third file has its form
  pub unsearched_unjudged : HasForm → (r : Refusal) → IsUnsearched program log r → IsRefused r
  unsearched_unjudged form (refusal.Program _) h = h
  unsearched_unjudged form (refusal.Log (Form _)) h = h
  unsearched_unjudged form (refusal.Refutation _) h = absurd h.2
  unsearched_unjudged form r h = (form, h)

  module _ (form_or_break : HasForm → (n : ℕ) → BreaksForm n → ⊥) where
    pub judged_or_refused : Task program log → HasForm → (r : Refusal) → IsRefused r → ⊥
    judged_or_refused t form (refusal.Program fault) h = task_or_refusal t (refusal.Program fault) h
    judged_or_refused t form (refusal.Log (Form offset)) h = task_or_refusal t (refusal.Log (Form offset)) h
    judged_or_refused t form (refusal.Refutation n) h = form_or_break form n h.1
    judged_or_refused t form r h = task_or_refusal t r h.1

    module _ (one_break : (m n : ℕ) → BreaksForm m → BreaksForm n → m ≡ n) where
      -- a third file that breaks its form, and any other reason
      broken_or : (n : ℕ) → IsRefused (refusal.Refutation n) → (r : Refusal) → IsRefused r → refusal.Refutation n ≡ r
      broken_or n f (refusal.Refutation m) g = ap (λ x. refusal.Refutation x) (one_break n m f.1 g.1)
      broken_or n f (refusal.Program fault) g = absurd (refused_no_code program fault f.0.code g f.0.programs)
      broken_or n f (refusal.Log (Form offset)) g = absurd (log_or_fault log f.0.run offset f.0.logs g.2)
      broken_or n f r g = absurd (form_or_break g.0 n f.1)

      abbrev Late : Refusal → Type 0
      Late (refusal.Refutation _) = Unit {0}
      Late r = IsUnsearched program log r

      late : (r : Refusal) → IsRefused r → Late r
      late (refusal.Program _) h = h
      late (refusal.Log (Form _)) h = h
      late (refusal.Refutation _) h = tt
      late r h = h.1

      pub one_unjudged : (r q : Refusal) → IsRefused r → IsRefused q → r ≡ q
      one_unjudged (refusal.Refutation n) q f g = broken_or n f q g
      one_unjudged r (refusal.Refutation n) f g = sym (broken_or n g r f)
      one_unjudged r q f g = one_unsearched program log r q (late r f) (late q g)

-- bytes have the text of one refutation, or break the form at one place
module _ (bytes : List ℕ) where
  pub form_or_break : Refutation bytes → (n : ℕ) → BreaksAt bytes n → ⊥
  form_or_break r n h = broken-is-no-text bytes n h r.head r.lines r.text.whole (sym r.text.text)

  pub one_break : (m n : ℕ) → BreaksAt bytes m → BreaksAt bytes n → m ≡ n
  one_break m n f g =
      let same = reads-agree bytes beginning f.1.0 g.1.0 f.0 g.0 f.1.1 g.1.1 in
      same_Some m n (sym f.1.2 ∙ ap first_breach same.1 ∙ g.1.2)

module _ {bytes : List ℕ} where
  pub one_refutation : (r q : Refutation bytes) → (r.head ≡ q.head) × (r.lines ≡ q.lines)
  one_refutation r q = text-has-one-value r.head q.head r.lines q.lines r.text.whole q.text.whole (sym r.text.text ∙ q.text.text)

  -- a checker finds the same of the lines of one refutation over the clauses of one task
  pub same_found : {program log : List ℕ} (t s : Task program log) (r q : Refutation bytes)
      → check (clauses_under t r) r.lines ≡ check (clauses_under s q) q.lines
  same_found t s r q =
      let e = one_refutation r q in
      at_pair (λ code (run : StoredLog). check (clauses_under t r) r.lines ≡ check (head_clauses r.head code run.log) r.lines) t.pair s.pair refl
      ∙ ap (λ (h : Head). check (head_clauses h s.pair.code s.pair.run.log) r.lines) e.0
      ∙ ap (λ (ls : List Line). check (clauses_under s q) ls) e.1
