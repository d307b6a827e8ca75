-- From a run of `solve` over known files to its answers.
use Rattle.std.proofs.Common.{◌≡◌, ◌⊎◌, inl, inr, refl, subst, ℕ, List, Some}
use Rattle.clap_solve.specs.Clauses.{bound_of}
use Rattle.clap_solve.specs.Solved.{IsAnswer}
use Rattle.clap_solve.specs.cdcl_core.declared.answer.Answer.{Answer}
use Rattle.clap_solve.specs.cdcl_core.declared.answer.Answer.TheVariants.{Found, Impossible, Spent}
use Rattle.memory_models.specs.declared.model.Model.{Model}
use Rattle.refute_check.specs.declared.line.Line.{Line}
use Rattle.schedule_file.specs.declared.schedule.Schedule.{Schedule}
use Rattle.store_buffers.specs.Buffers.{buffer_of}
use Rattle.tc_io.specs.Outside.{Files, ShelfTells, SinkTells, Wrote, bytes_at}
use Rattle.command_frame.specs.Answers.{number_of}
use Rattle.command_frame.specs.End.{End}
use Rattle.command_frame.specs.Run.{Runs}
use Rattle.command_frame.specs.declared.status.Status.TheVariants.{Done, Fails, Open}
use Rattle.command_inputs.specs.Forms.{IsSchedule}
use Rattle.log_tasks.specs.Tasks.{model_of}
use Rattle.log_tasks.specs.Texts.{IsTextOf}
use Rattle.command_inputs.proofs.command_ends.Ended.{Reports, declines, reported, reported_or_declined, result_at}
use Rattle.log_tasks.specs.Asked.{ComesTo, inputs_of}
use Rattle.log_tasks.proofs.Tasks.{one_unsearched, task_or_refusal}
use Rattle.solve_command.specs.Answers.{SolveAnswers}
use Rattle.solve_command.specs.Calls.{Solve}
use Rattle.solve_command.specs.Meanings.{IsFound, answer_said, report_of, solve_of}
use Rattle.solve_command.specs.declared.solution.Solution.{Solution}

-- an answer with each status
is_found : (b : ℕ) (a : Answer Schedule) → (answer_said b a).0 ≡ Done → (s : Schedule) × (a ≡ Found s)
is_found b (Found s) is = (s, refl)
is_found b (Impossible _) is = absurd (let bad : Fails ≡ Done = is in cc)
is_found b (Spent _) is = absurd (let bad : Open ≡ Done = is in cc)

is_impossible : (b : ℕ) (a : Answer Schedule) → (answer_said b a).0 ≡ Fails → (lines : List Line) × (a ≡ Impossible lines)
is_impossible b (Impossible lines) is = (lines, refl)
is_impossible b (Found _) is = absurd (let bad : Done ≡ Fails = is in cc)
is_impossible b (Spent _) is = absurd (let bad : Open ≡ Fails = is in cc)

is_spent : (b : ℕ) (a : Answer Schedule) → (answer_said b a).0 ≡ Open → (lines : List Line) × (a ≡ Spent lines)
is_spent b (Spent lines) is = (lines, refl)
is_spent b (Found _) is = absurd (let bad : Done ≡ Open = is in cc)
is_spent b (Impossible _) is = absurd (let bad : Fails ≡ Open = is in cc)

any_answer : (n b : ℕ) (a : Answer Schedule) → n ≡ number_of (answer_said b a).0 → (n ≡ 0) ⊎ (n ≡ 1) ⊎ (n ≡ 10)
any_answer n b (Found _) is = inl is
any_answer n b (Impossible _) is = inr (inl is)
any_answer n b (Spent _) is = inr (inr is)

module _ (call : Solve) (files : Files) (old new : ShelfTells) (number : ℕ) (before after : SinkTells) (told : old.held ≡ Some files)
    (runs : Runs (solve_of call) old new number before after) where
  abbrev e : End
  e = record { status = number; held = new.held; before = before; after = after }

  abbrev IsReport : Solution → Type 0
  IsReport x = Reports (inputs_of call.asked) (ComesTo call.asked.model (IsFound call.budget)) (report_of call) files e x

  -- a solution whose answer is this one, under the memory model that is meant
  module _ (x : Solution) (r : IsReport x) (a : Answer Schedule) (is : x.answer ≡ a) where
    abbrev m : Model
    m = model_of call.asked.model r.comes.0.pair

    answer : IsAnswer (buffer_of m) m (bound_of m) r.comes.0.pair.code r.comes.0.pair.run.log call.budget a
    answer = subst (IsAnswer (buffer_of m) m (bound_of m) r.comes.0.pair.code r.comes.0.pair.run.log call.budget) is r.comes.1.answer

    text : IsTextOf m a x.text.items
    text = subst (λ b. IsTextOf m b x.text.items) is r.comes.1.text

    line : Wrote before after (answer_said call.budget a).1
    line = subst (λ b. Wrote before after (answer_said call.budget b).1) is r.wrote

  pub solve_answers : SolveAnswers call files e
  solve_answers = record {
    found = λ is.
        let o = result_at (inputs_of call.asked) (ComesTo call.asked.model (IsFound call.budget)) (report_of call) files old new number before after told runs Done tt is in
        let f = is_found call.budget o.0.answer o.1 in
        let h = answer o.0 o.2 (Found f.0) f.1 in
        let schedule = subst (λ n. IsSchedule o.0.text.items (record { model = n; moves = f.0.moves.items })) h.0 (text o.0 o.2 (Found f.0) f.1) in
        (o.2.comes.0, f.0.moves.items, h.1, (o.0.text.items, schedule, (o.2.held, line o.0 o.2 (Found f.0) f.1)));
    impossible = λ is.
        let o = result_at (inputs_of call.asked) (ComesTo call.asked.model (IsFound call.budget)) (report_of call) files old new number before after told runs Fails tt is in
        let f = is_impossible call.budget o.0.answer o.1 in
        let h = answer o.0 o.2 (Impossible f.0) f.1 in (
          o.2.comes.0,
          h.1,
          (f.0, h.0, (o.0.text.items, text o.0 o.2 (Impossible f.0) f.1, (o.2.held, line o.0 o.2 (Impossible f.0) f.1))),
        );
    spent = λ is.
        let o = result_at (inputs_of call.asked) (ComesTo call.asked.model (IsFound call.budget)) (report_of call) files old new number before after told runs Open tt is in
        let f = is_spent call.budget o.0.answer o.1 in (
          o.2.comes.0,
          (f.0, answer o.0 o.2 (Spent f.0) f.1, (o.0.text.items, text o.0 o.2 (Spent f.0) f.1, (o.2.held, line o.0 o.2 (Spent f.0) f.1))),
        );
    searched = λ t short.
        elim (reported (inputs_of call.asked) (ComesTo call.asked.model (IsFound call.budget)) (report_of call) files old new number before after told runs short (task_or_refusal t)) [
          | inl x ↦ elim (any_answer number call.budget x.0.answer x.1.status) [
            | inl zero ↦ inl zero
            | inr (inl one) ↦ inr (inl one)
            | inr (inr ten) ↦ inr (inr (inl ten))
          ]
          | inr fault ↦ inr (inr (inr fault))
        ];
    declines =
        declines (inputs_of call.asked) (ComesTo call.asked.model (IsFound call.budget)) (report_of call) files old new number before after told runs
        (one_unsearched (bytes_at files call.asked.program) (bytes_at files call.asked.log))
        (λ r x is comes. task_or_refusal comes.0 r is);
    alone = elim (reported_or_declined (inputs_of call.asked) (ComesTo call.asked.model (IsFound call.budget)) (report_of call) files old new number before after told runs) [
      | inl x ↦ elim (any_answer number call.budget x.0.answer x.1.status) [
        | inl zero ↦ inl zero
        | inr (inl one) ↦ inr (inl one)
        | inr (inr ten) ↦ inr (inr (inl ten))
      ]
      | inr declined ↦ inr (inr (inr declined))
    ];
  }
