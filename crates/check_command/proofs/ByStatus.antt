-- From a run of `check` over known files to its answers by status.
use Rattle.std.proofs.Common.{◌≡◌, ◌∙◌, ◌⊎◌, inl, inr, ap, subst, ℕ, List, Option, Some}
use Rattle.refutation_verdicts.specs.refute_check.Refutations.{IsClosed, IsOpen, check}
use Rattle.command_inputs.specs.tc_base.declared.moves.Move.{Move}
use Rattle.tc_io.specs.Outside.{Files, ShelfTells, SinkTells, Wrote, bytes_at}
use Rattle.command_frame.specs.Answers.{number_of}
use Rattle.command_frame.specs.ByStatus.{IsStatus}
use Rattle.command_frame.specs.End.{End, LeavesNothing}
use Rattle.command_frame.specs.Run.{Runs}
use Rattle.command_frame.specs.declared.status.Status.{Status}
use Rattle.command_frame.specs.declared.status.Status.TheVariants as status
use Rattle.refutation_verdicts.proofs.command_ends.Ended.{IsOfResults, Reports, declines, reported, reported_or_declined, result_at}
use Rattle.refutation_verdicts.specs.command_ends.Ends.{AreShort, HasDeclined}
use Rattle.refutation_verdicts.specs.log_tasks.Tasks.{Reproduces}
use Rattle.check_command.proofs.Excluded.{excluded}
use Rattle.refutation_verdicts.proofs.Judged.{form_or_break, judged_or_refused, one_break, one_unjudged, same_found}
use Rattle.refutation_verdicts.proofs.Verdicts.{any_status, status_found}
use Rattle.check_command.specs.Answers.{CheckAnswers, IsRefused, RefutationIn, TaskIn}
use Rattle.check_command.specs.Meanings.{Checks}
use Rattle.check_command.specs.Meanings.{check_of, inputs_of}
use Rattle.refutation_verdicts.specs.Refutations.{IsMoreThan, Names, clauses_under, switches_of}
use Rattle.refutation_verdicts.specs.Verdicts.{IsRefusedAt, closed_line, found_status, open_line, refused_line, verdict_report, verdict_status}
use Rattle.refutation_verdicts.specs.declared.verdict.Verdict.{Verdict}
use Rattle.refutation_verdicts.specs.declared.verdict.Verdict.TheVariants.{Closed, Open, LineRefused}
use Rattle.refutation_verdicts.specs.refute_check.Broken.{BreaksAt}

module _ (call : Names) (files : Files) (old new : ShelfTells) (number : ℕ) (before after : SinkTells) (told : old.held ≡ Some files)
    (runs : Runs (check_of call) old new number before after) where
  abbrev e : End
  e = record { status = number; held = new.held; before = before; after = after }

  abbrev Ends : Verdict (Option ℕ) → Type 0
  Ends v = Reports (inputs_of call) Checks (verdict_report closed_line) files e v

  at : (s : Status) → IsOfResults s → number ≡ number_of s → (v : Verdict (Option ℕ)) × (verdict_status v ≡ s) × Ends v
  at = result_at (inputs_of call) Checks (verdict_report closed_line) files old new number before after told runs

  closed_so : (v : Verdict (Option ℕ)) → verdict_status v ≡ status.Done → Ends v
      → (t : TaskIn call files) × (r : RefutationIn call files) × IsClosed (clauses_under t r) r.lines
      × ((moves : List Move) → Reproduces (Some r.head.model) t.pair moves → IsMoreThan r.head.switches (switches_of t r moves))
      × LeavesNothing files e (closed_line r.head.switches)
  closed_so (Closed most) is ends =
      let c = ends.comes in (
        c.0,
        c.1,
        c.2.0,
        excluded c.0 c.1 c.2.0,
        (ends.held, subst (λ named. Wrote before after (closed_line named)) c.2.1 ends.wrote),
      )
  closed_so Open is ends = absurd (let bad : status.Open ≡ status.Done = is in cc)
  closed_so (LineRefused n) is ends = absurd (let bad : status.Fails ≡ status.Done = is in cc)

  open_so : (v : Verdict (Option ℕ)) → verdict_status v ≡ status.Open → Ends v
      → (t : TaskIn call files) × (r : RefutationIn call files) × IsOpen (clauses_under t r) r.lines × LeavesNothing files e open_line
  open_so (Closed most) is ends = absurd (let bad : status.Done ≡ status.Open = is in cc)
  open_so Open is ends = let c = ends.comes in (c.0, c.1, c.2, (ends.held, ends.wrote))
  open_so (LineRefused n) is ends = absurd (let bad : status.Fails ≡ status.Open = is in cc)

  line_so : (v : Verdict (Option ℕ)) → verdict_status v ≡ status.Fails → Ends v
      → (t : TaskIn call files) × (r : RefutationIn call files) × (n : ℕ) × IsRefusedAt (check (clauses_under t r) r.lines) n
      × LeavesNothing files e (refused_line n)
  line_so (Closed most) is ends = absurd (let bad : status.Done ≡ status.Fails = is in cc)
  line_so Open is ends = absurd (let bad : status.Open ≡ status.Fails = is in cc)
  line_so (LineRefused n) is ends = let c = ends.comes in (c.0, c.1, n, c.2, (ends.held, ends.wrote))

  abbrev program : List ℕ
  program = bytes_at files call.program

  abbrev log : List ℕ
  log = bytes_at files call.log

  abbrev bytes : List ℕ
  bytes = bytes_at files call.refutation

  judged_so : AreShort (inputs_of call) files → (t : TaskIn call files) (r : RefutationIn call files)
      → IsStatus number (number_of (found_status (check (clauses_under t r) r.lines)))
  judged_so short t r =
      elim (reported (inputs_of call) Checks (verdict_report closed_line) files old new number before after told runs short
      (judged_or_refused program log (RefutationIn call files) (BreaksAt bytes) (form_or_break bytes) t r)) [
        | inl x ↦ (let c = x.1.comes in
            inl (x.1.status ∙ ap number_of (status_found (λ most. most ≡ c.1.head.switches) (check (clauses_under c.0 c.1) c.1.lines) x.0 c.2
            ∙ ap (λ f. found_status f) (same_found c.0 t c.1 r))))
        | inr fault ↦ inr fault
      ]

  pub check_answers : CheckAnswers call files e
  check_answers = record {
    closed = λ is. let w = at status.Done tt is in closed_so w.0 w.1 w.2;
    undecided = λ is. let w = at status.Open tt is in open_so w.0 w.1 w.2;
    line_refused = λ is. let w = at status.Fails tt is in line_so w.0 w.1 w.2;
    judged = judged_so;
    declines = declines (inputs_of call) Checks (verdict_report closed_line) files old new number before after told runs
        (one_unjudged program log (RefutationIn call files) (BreaksAt bytes) (form_or_break bytes) (one_break bytes))
        (λ why v refused comes. judged_or_refused program log (RefutationIn call files) (BreaksAt bytes) (form_or_break bytes) comes.0 comes.1 why refused);
    others = others;
  }
    where
      others : (number ≡ 0) ⊎ (number ≡ 1) ⊎ (number ≡ 10) ⊎ HasDeclined (inputs_of call) (IsRefused call files) files e
      others = elim (reported_or_declined (inputs_of call) Checks (verdict_report closed_line) files old new number before after told runs) [
        | inl x ↦ elim (any_status number x.0 x.1.status) [
          | inl zero ↦ inl zero
          | inr (inl one) ↦ inr (inl one)
          | inr (inr ten) ↦ inr (inr (inl ten))
        ]
        | inr declined ↦ inr (inr (inr declined))
      ]
