-- From a run of `solve --least` over known files to its answers.
use Rattle.std.proofs.Common.{◌≡◌, ◌⊎◌, inl, inr, refl, subst, ℕ, List, Option, Some}
use Rattle.least_switch.specs.declared.answer.Least.{Least as Minimum}
use Rattle.least_switch.specs.declared.answer.Least.TheVariants.{Found, Impossible, Spent, SpentAt}
use Rattle.refute_check.specs.declared.line.Line.{Line}
use Rattle.schedule_file.specs.declared.schedule.Schedule.{Schedule}
use Rattle.tc_io.specs.Outside.{Files, ShelfTells, SinkTells, bytes_at}
use Rattle.command_frame.specs.Answers.{number_of}
use Rattle.command_frame.specs.End.{End}
use Rattle.command_frame.specs.Run.{Runs}
use Rattle.command_frame.specs.declared.status.Status.TheVariants.{Done, Fails, Open}
use Rattle.command_inputs.proofs.command_ends.Ended.{Reports, declines, reported, reported_or_declined, result_at}
use Rattle.log_tasks.specs.Asked.{ComesTo, inputs_of}
use Rattle.log_tasks.proofs.Tasks.{one_unsearched, task_or_refusal}
use Rattle.least_command.specs.Answers.{LeastAnswers, Leaves}
use Rattle.least_command.specs.Calls.{Least}
use Rattle.least_command.specs.Meanings.{IsFound, least_of, least_said, report_of, second_of}
use Rattle.least_command.specs.declared.solution.Solution.{Solution}

-- what is found, with each status
module _ (budget : ℕ) where
  is_found : (a : Minimum) → (least_said budget a).0 ≡ Done → (s : Schedule) × (count : ℕ) × (shown : Option (List Line)) × (a ≡ Found s count shown)
  is_found (Found s count shown) is = (s, count, shown, refl)
  is_found (Impossible _) is = absurd (let bad : Fails ≡ Done = is in cc)
  is_found (Spent _) is = absurd (let bad : Open ≡ Done = is in cc)
  is_found (SpentAt _ _ _) is = absurd (let bad : Open ≡ Done = is in cc)

  is_impossible : (a : Minimum) → (least_said budget a).0 ≡ Fails → (lines : List Line) × (a ≡ Impossible lines)
  is_impossible (Impossible lines) is = (lines, refl)
  is_impossible (Found _ _ _) is = absurd (let bad : Done ≡ Fails = is in cc)
  is_impossible (Spent _) is = absurd (let bad : Open ≡ Fails = is in cc)
  is_impossible (SpentAt _ _ _) is = absurd (let bad : Open ≡ Fails = is in cc)

  is_spent : (a : Minimum) → (least_said budget a).0 ≡ Open
      → ((lines : List Line) × (a ≡ Spent lines)) ⊎ ((s : Schedule) × (count : ℕ) × (lines : List Line) × (a ≡ SpentAt s count lines))
  is_spent (Spent lines) is = inl (lines, refl)
  is_spent (SpentAt s count lines) is = inr (s, count, lines, refl)
  is_spent (Found _ _ _) is = absurd (let bad : Done ≡ Open = is in cc)
  is_spent (Impossible _) is = absurd (let bad : Fails ≡ Open = is in cc)

  any_answer : (n : ℕ) (a : Minimum) → n ≡ number_of (least_said budget a).0 → (n ≡ 0) ⊎ (n ≡ 1) ⊎ (n ≡ 10)
  any_answer n (Found _ _ _) is = inl is
  any_answer n (Impossible _) is = inr (inl is)
  any_answer n (Spent _) is = inr (inr is)
  any_answer n (SpentAt _ _ _) is = inr (inr is)

module _ (call : Least) (files : Files) (old new : ShelfTells) (number : ℕ) (before after : SinkTells) (told : old.held ≡ Some files)
    (runs : Runs (least_of call) old new number before after) where
  abbrev e : End
  e = record { status = number; held = new.held; before = before; after = after }

  abbrev IsReport : Solution → Type 0
  IsReport x = Reports (inputs_of call.asked) (ComesTo call.asked.model (IsFound call.budget)) (report_of call) files e x

  -- a solution leaves its texts
  leaves : (x : Solution) (r : IsReport x) (a : Minimum) → x.least ≡ a → Leaves call files e r.comes.0 a
  leaves x r a is =
      subst (Leaves call files e r.comes.0) is
      (r.comes.1.least, x.out.items, r.comes.1.first, second_of x, r.comes.1.second, r.held, r.wrote)

  any_status : (x : Solution) → IsReport x → (number ≡ 0) ⊎ (number ≡ 1) ⊎ (number ≡ 10)
  any_status x r = any_answer call.budget number x.least r.status

  pub least_answers : LeastAnswers call files e
  least_answers = record {
    found = λ is.
        let o = result_at (inputs_of call.asked) (ComesTo call.asked.model (IsFound call.budget)) (report_of call) files old new number before after told runs Done tt is in
        let f = is_found call.budget o.0.least o.1 in
        (o.2.comes.0, f.0, f.1, f.2, leaves o.0 o.2 (Found f.0 f.1 f.2) f.3);
    impossible = λ is.
        let o = result_at (inputs_of call.asked) (ComesTo call.asked.model (IsFound call.budget)) (report_of call) files old new number before after told runs Fails tt is in
        let f = is_impossible call.budget o.0.least o.1 in
        (o.2.comes.0, f.0, leaves o.0 o.2 (Impossible f.0) f.1);
    spent = λ is.
        let o = result_at (inputs_of call.asked) (ComesTo call.asked.model (IsFound call.budget)) (report_of call) files old new number before after told runs Open tt is in
        elim (is_spent call.budget o.0.least o.1) [
          | inl f ↦ (o.2.comes.0, inl (f.0, leaves o.0 o.2 (Spent f.0) f.1))
          | inr f ↦ (o.2.comes.0, inr (f.0, f.1, f.2, leaves o.0 o.2 (SpentAt f.0 f.1 f.2) f.3))
        ];
    searched = λ t short.
        elim (reported (inputs_of call.asked) (ComesTo call.asked.model (IsFound call.budget)) (report_of call) files old new number before after told runs short (task_or_refusal t)) [
          | inl x ↦ elim (any_status x.0 x.1) [
            | inl done ↦ inl done
            | inr (inl one) ↦ inr (inl one)
            | inr (inr ten) ↦ inr (inr (inl ten))
          ]
          | inr fault ↦ inr (inr (inr fault))
        ];
    declines =
        declines (inputs_of call.asked) (ComesTo call.asked.model (IsFound call.budget)) (report_of call) files old new number before after told runs
        (one_unsearched (bytes_at files call.asked.program) (bytes_at files call.asked.log))
        (λ r x is comes. task_or_refusal comes.0 r is);
    alone = elim (reported_or_declined (inputs_of call.asked) (ComesTo call.asked.model (IsFound call.budget)) (report_of call) files old new number before after told runs) [
      | inl x ↦ elim (any_status x.0 x.1) [
        | inl done ↦ inl done
        | inr (inl one) ↦ inr (inl one)
        | inr (inr ten) ↦ inr (inr (inl ten))
      ]
      | inr declined ↦ inr (inr (inr declined))
    ];
  }
