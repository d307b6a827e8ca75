-- From a run of `import` over known files to its answers.
use Rattle.std.proofs.Common.{◌≡◌, ◌⊎◌, inl, inr, subst, ℕ, List, Some, unwrap_or}
use Rattle.clap_solve.specs.Clauses.{model_clauses}
use Rattle.clap_solve.specs.Imported.{IsFalseOf, values_of}
use Rattle.dimacs_text.proofs.FirstFalse.{false_or_satisfied}
use Rattle.run_log.specs.tc_base.declared.moves.Move.{Move}
use Rattle.tc_io.specs.Outside.{Files, ShelfTells, SinkTells, bytes_at}
use Rattle.command_frame.specs.End.{End, LeavesNothing}
use Rattle.command_frame.specs.Run.{Runs}
use Rattle.command_frame.specs.declared.status.Status.TheVariants.{Done, Fails}
use Rattle.command_inputs.specs.Forms.{IsSchedule}
use Rattle.log_tasks.specs.Asked.{LeavesSchedule}
use Rattle.log_tasks.specs.Tasks.{Reproduces, clauses_of}
use Rattle.command_inputs.proofs.command_ends.Ended.{Reports, declines, reported, reported_or_declined, result_at}
use Rattle.import_command.specs.Answers.{ImportAnswers}
use Rattle.import_command.specs.Calls.{AnsweredIn, Import, inputs_of}
use Rattle.import_command.specs.Lines.{imported_said}
use Rattle.import_command.specs.Meanings.{ComesTo, IsSatisfying, MakesFalse, import_of, report_of}
use Rattle.import_command.specs.declared.imported.Imported.{Imported}
use Rattle.import_command.specs.declared.imported.Imported.TheVariants.{Found, False}
use Rattle.import_command.proofs.Untaken.{at_answered, one_untaken, taken_or_refusal}

module _ (call : Import) (files : Files) (old new : ShelfTells) (number : ℕ) (before after : SinkTells) (told : old.held ≡ Some files)
    (runs : Runs (import_of call) old new number before after) where
  abbrev e : End
  e = record { status = number; held = new.held; before = before; after = after }

  abbrev IsReport : Imported → Type 0
  IsReport x = Reports (inputs_of call) (ComesTo call) (report_of call) files e x

  -- no clause of satisfied ones is false
  never_both : (a b : AnsweredIn call files) (n : ℕ) → IsSatisfying call.asked.model a → MakesFalse call.asked.model b n → ⊥
  never_both a b n is false =
      let f = clauses_of call.asked.model a.task.pair in
      let there = at_answered (λ code run ls. IsFalseOf (model_clauses (unwrap_or call.asked.model run.log.model) code run.log) ls n) b a false in
      false_or_satisfied (values_of f a.literals) f.clauses there.0 there.2 is

  -- a report with each status
  found_by : (x : Imported) → (imported_said x).0 ≡ Done → IsReport x → (a : AnsweredIn call files) × (moves : List Move) × IsSatisfying call.asked.model a
      × Reproduces call.asked.model a.task.pair moves × LeavesSchedule call.asked files e a.task moves
  found_by (Found schedule text) is r =
      let made = r.comes.1 in
      let whole = subst (λ m. IsSchedule text.items (record { model = m; moves = schedule.moves.items })) made.1 made.3 in
      (r.comes.0, schedule.moves.items, made.0, made.2, (text.items, whole, (r.held, r.wrote)))
  found_by (False n) is r = absurd (let bad : Fails ≡ Done = is in cc)

  false_by : (x : Imported) → (imported_said x).0 ≡ Fails → IsReport x
      → (a : AnsweredIn call files) × (n : ℕ) × MakesFalse call.asked.model a n × LeavesNothing files e (imported_said (False n)).1
  false_by (False n) is r = (r.comes.0, n, r.comes.1, (r.held, r.wrote))
  false_by (Found schedule text) is r = absurd (let bad : Done ≡ Fails = is in cc)

  -- what the files decide
  satisfied_by : (a : AnsweredIn call files) → IsSatisfying call.asked.model a → (x : Imported) → IsReport x → number ≡ 0
  satisfied_by a is (Found schedule text) r = r.status
  satisfied_by a is (False n) r = absurd (never_both a r.comes.0 n is r.comes.1)

  falsified_by : (a : AnsweredIn call files) (n : ℕ) → MakesFalse call.asked.model a n → (x : Imported) → IsReport x → number ≡ 1
  falsified_by a n is (Found schedule text) r = absurd (never_both r.comes.0 a n r.comes.1.0 is)
  falsified_by a n is (False m) r = r.status

  either : (x : Imported) → IsReport x → (number ≡ 0) ⊎ (number ≡ 1)
  either (Found schedule text) r = inl r.status
  either (False n) r = inr r.status

  pub import_answers : ImportAnswers call files e
  import_answers = record {
    found = λ is.
        let o = result_at (inputs_of call) (ComesTo call) (report_of call) files old new number before after told runs Done tt is in
        found_by o.0 o.1 o.2;
    false_clause = λ is.
        let o = result_at (inputs_of call) (ComesTo call) (report_of call) files old new number before after told runs Fails tt is in
        false_by o.0 o.1 o.2;
    satisfied = λ short a is.
        elim (reported (inputs_of call) (ComesTo call) (report_of call) files old new number before after told runs short (taken_or_refusal a)) [
          | inl x ↦ inl (satisfied_by a is x.0 x.1)
          | inr fault ↦ inr fault
        ];
    falsified = λ short a n is.
        elim (reported (inputs_of call) (ComesTo call) (report_of call) files old new number before after told runs short (taken_or_refusal a)) [
          | inl x ↦ inl (falsified_by a n is x.0 x.1)
          | inr fault ↦ inr fault
        ];
    declines =
        declines (inputs_of call) (ComesTo call) (report_of call) files old new number before after told runs
        (one_untaken (bytes_at files call.asked.program) (bytes_at files call.asked.log) (bytes_at files call.answer))
        (λ r x is comes. taken_or_refusal comes.0 r is);
    alone = elim (reported_or_declined (inputs_of call) (ComesTo call) (report_of call) files old new number before after told runs) [
      | inl x ↦ elim (either x.0 x.1) [
        | inl zero ↦ inl zero
        | inr one ↦ inr (inl one)
      ]
      | inr declined ↦ inr (inr declined)
    ];
  }
