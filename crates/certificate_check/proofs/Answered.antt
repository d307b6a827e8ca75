-- From a run of `--check` over known files to its answers.
use Rattle.std.proofs.Common.{◌≡◌, inl, inr, ap, ℕ, List, Some, IfSome}
use Rattle.tc_code.specs.Code.{Code}
use Rattle.tc_compile.specs.Programs.{IsCodeOf}
use Rattle.tc_compile.proofs.OnePrograms.{one_refusal, refused_no_code}
use Rattle.tc_io.specs.Outside.{Files, ShelfTells, SinkTells, bytes_at}
use Rattle.command_inputs.proofs.command_ends.Ended.{Reports, declines, reported, reported_or_declined, result_at}
use Rattle.command_frame.specs.End.{End}
use Rattle.command_frame.specs.Run.{Runs}
use Rattle.command_frame.specs.declared.status.Status.TheVariants as status
use Rattle.command_frame.proofs.AllRuns.{if_told}
use Rattle.command_inputs.specs.declared.refusal.Refusal.{Refusal}
use Rattle.command_inputs.specs.declared.refusal.Refusal.TheVariants.{Program}
use Rattle.certificate_input.specs.declared.verdict.Verdict.{Verdict}
use Rattle.certificate_input.specs.declared.verdict.Verdict.TheVariants.{Holds, Open, LineRefused, Form, Limit, LeftOut}
use Rattle.certificate_check.specs.Answers.{CheckAnswers, HasCode, HasNone, HasOpen, HasVerdict, HasWrong}
use Rattle.certificate_check.specs.Lines.{verdict_status}
use Rattle.certificate_check.specs.Meanings.{Check, ComesTo, IsUnread, check_of, inputs_of, report}

-- a text is refused for one reason, and has no code then
one_unread : (program : List ℕ) (r q : Refusal) → IsUnread program r → IsUnread program q → r ≡ q
one_unread program (Program r) (Program q) f g = ap (λ x. Program x) (one_refusal program r q f g)
one_unread program (Program r) _ f g = absurd g
one_unread program _ q f g = absurd f

unread_or_coded : (program : List ℕ) (code : Code) → IsCodeOf program code → (r : Refusal) → IsUnread program r → ⊥
unread_or_coded program code is (Program r) f = refused_no_code program r code f is
unread_or_coded program code is _ f = f

module _ (call : Check) (files : Files) (old new : ShelfTells) (number : ℕ) (before after : SinkTells) (told : old.held ≡ Some files)
    (runs : Runs (check_of call) old new number before after) where
  abbrev e : End
  e = record { status = number; held = new.held; before = before; after = after }

  abbrev Ends : Verdict → Type 0
  Ends v = Reports (inputs_of call) ComesTo report files e v

  holds_so : (v : Verdict) → verdict_status v ≡ status.Done → Ends v → HasCode call files e (HasNone call files e)
  holds_so (Holds h) is r = (r.comes.0, r.comes.1, (h, r.comes.2.0, r.comes.2.1, (r.held, r.wrote)))
  holds_so Open is r = absurd (let bad : status.Open ≡ status.Done = is in cc)
  holds_so (LineRefused n) is r = absurd (let bad : status.Fails ≡ status.Done = is in cc)
  holds_so (Form n) is r = absurd (let bad : status.InputRefused ≡ status.Done = is in cc)
  holds_so (Limit which n limit) is r = absurd (let bad : status.OverLimit ≡ status.Done = is in cc)
  holds_so (LeftOut out) is r = absurd (let bad : status.OverLimit ≡ status.Done = is in cc)

  open_so : (v : Verdict) → verdict_status v ≡ status.Open → Ends v → HasCode call files e (HasOpen call files e)
  open_so (Holds h) is r = absurd (let bad : status.Done ≡ status.Open = is in cc)
  open_so Open is r = (r.comes.0, r.comes.1, (r.comes.2, (r.held, r.wrote)))
  open_so (LineRefused n) is r = absurd (let bad : status.Fails ≡ status.Open = is in cc)
  open_so (Form n) is r = absurd (let bad : status.InputRefused ≡ status.Open = is in cc)
  open_so (Limit which n limit) is r = absurd (let bad : status.OverLimit ≡ status.Open = is in cc)
  open_so (LeftOut out) is r = absurd (let bad : status.OverLimit ≡ status.Open = is in cc)

  wrong_so : (v : Verdict) → verdict_status v ≡ status.Fails → Ends v → HasCode call files e (HasWrong call files e)
  wrong_so (Holds h) is r = absurd (let bad : status.Done ≡ status.Fails = is in cc)
  wrong_so Open is r = absurd (let bad : status.Open ≡ status.Fails = is in cc)
  wrong_so (LineRefused n) is r = (r.comes.0, r.comes.1, (n, r.comes.2, (r.held, r.wrote)))
  wrong_so (Form n) is r = absurd (let bad : status.InputRefused ≡ status.Fails = is in cc)
  wrong_so (Limit which n limit) is r = absurd (let bad : status.OverLimit ≡ status.Fails = is in cc)
  wrong_so (LeftOut out) is r = absurd (let bad : status.OverLimit ≡ status.Fails = is in cc)

  verdict_so : (v : Verdict) → Ends v → HasCode call files e (HasVerdict call files e)
  verdict_so v r = (r.comes.0, r.comes.1, (v, r.comes.2, r.status, (r.held, r.wrote)))

  answers : CheckAnswers call files e
  answers = record {
    none = λ is.
        let x = result_at (inputs_of call) ComesTo report files old new number before after told runs status.Done tt is in holds_so x.0 x.1 x.2;
    wrong = λ is.
        let x = result_at (inputs_of call) ComesTo report files old new number before after told runs status.Fails tt is in wrong_so x.0 x.1 x.2;
    incomplete = λ is.
        let x = result_at (inputs_of call) ComesTo report files old new number before after told runs status.Open tt is in open_so x.0 x.1 x.2;
    checked = λ code is short.
        elim (reported (inputs_of call) ComesTo report files old new number before after told runs short
        (unread_or_coded (bytes_at files call.program) code is)) [
          | inl x ↦ inl (verdict_so x.0 x.1)
          | inr fault ↦ inr fault
        ];
    declines =
        declines (inputs_of call) ComesTo report files old new number before after told runs
        (one_unread (bytes_at files call.program)) (λ r x f w. unread_or_coded (bytes_at files call.program) w.0 w.1 r f);
    others =
        elim (reported_or_declined (inputs_of call) ComesTo report files old new number before after told runs) [
          | inl x ↦ inl (verdict_so x.0 x.1)
          | inr declined ↦ inr declined
        ];
  }

-- where the shelf tells what it holds
pub by_files : (call : Check) (old new : ShelfTells) (number : ℕ) (before after : SinkTells) → Runs (check_of call) old new number before after
    → IfSome old.held (λ files. CheckAnswers call files (record { status = number; held = new.held; before = before; after = after }))
by_files call old new number before after runs =
    if_told old.held (λ files. CheckAnswers call files (record { status = number; held = new.held; before = before; after = after }))
    (λ files is. answers call files old new number before after is runs)
