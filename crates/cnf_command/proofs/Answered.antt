-- From a run of `cnf` over known files to its answers.
use Rattle.std.proofs.Common.{◌≡◌, ◌∙◌, ap, inl, inr, subst, ℕ, Some}
use Rattle.dimacs_text.specs.Texts.{cnf_text}
use Rattle.tc_io.specs.Outside.{Files, ShelfTells, SinkTells, Wrote, bytes_at, put_under}
use Rattle.command_frame.specs.End.{End}
use Rattle.command_frame.specs.Run.{Runs}
use Rattle.command_frame.specs.declared.status.Status.TheVariants.{Done}
use Rattle.command_inputs.proofs.command_ends.Ended.{Reports, declines, reported, reported_or_declined, result_at}
use Rattle.log_tasks.specs.Asked.{Asked, ComesTo, inputs_of}
use Rattle.log_tasks.proofs.Tasks.{one_unsearched, task_or_refusal}
use Rattle.cnf_command.specs.Answers.{CnfAnswers, LeavesClauses}
use Rattle.cnf_command.specs.Lines.{clauses_line}
use Rattle.cnf_command.specs.Meanings.{AreClauses, cnf_of, report_of}
use Rattle.cnf_command.specs.declared.export.Exported.{Exported}
use Rattle.cnf_command.proofs.Runs.{are_runs}

module _ (call : Asked) (files : Files) (old new : ShelfTells) (number : ℕ) (before after : SinkTells) (told : old.held ≡ Some files)
    (runs : Runs (cnf_of call) old new number before after) where
  abbrev e : End
  e = record { status = number; held = new.held; before = before; after = after }

  -- what a report of clauses leaves
  leaves : (x : Exported) (r : Reports (inputs_of call) (ComesTo call.model AreClauses) (report_of call) files e x) → LeavesClauses call files e r.comes.0
  leaves x r = (
    r.held ∙ ap (λ text. put_under call.out text (Some files)) (r.comes.1.text ∙ ap cnf_text r.comes.1.clauses),
    subst (λ f. Wrote before after (clauses_line f)) r.comes.1.clauses r.wrote,
  )

  pub cnf_answers : CnfAnswers call files e
  cnf_answers = record {
    exported = λ is.
        let o = result_at (inputs_of call) (ComesTo call.model AreClauses) (report_of call) files old new number before after told runs Done tt is in
        (o.2.comes.0, are_runs call.model o.2.comes.0, leaves o.0 o.2);
    complete = λ t short.
        elim (reported (inputs_of call) (ComesTo call.model AreClauses) (report_of call) files old new number before after told runs short (task_or_refusal t)) [
          | inl x ↦ inl x.1.status
          | inr fault ↦ inr fault
        ];
    declines =
        declines (inputs_of call) (ComesTo call.model AreClauses) (report_of call) files old new number before after told runs
        (one_unsearched (bytes_at files call.program) (bytes_at files call.log))
        (λ r x is comes. task_or_refusal comes.0 r is);
    alone = elim (reported_or_declined (inputs_of call) (ComesTo call.model AreClauses) (report_of call) files old new number before after told runs) [
      | inl x ↦ inl x.1.status
      | inr declined ↦ inr declined
    ];
  }
