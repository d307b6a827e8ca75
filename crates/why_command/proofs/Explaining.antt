-- From what was read, and what a derivation shows, to the outcome of `why`.
use Rattle.std.proofs.Common.{refl, List, ℕ, Result, Ok, Err, IfOk, IfErr}
use Rattle.clap_solve.specs.Clauses.{bound_of, model_clauses}
use Rattle.clap_solve.specs.Solved.{IsWithin}
use Rattle.memory_models.specs.declared.model.Model.{Model}
use Rattle.command_inputs.specs.path_log.Texts.{IsOfOther}
use Rattle.refute_check.specs.Refutations.{IsOpen, check}
use Rattle.refute_check.specs.declared.line.Line.{Line}
use Rattle.store_buffers.specs.Buffers.{buffer_of}
use Rattle.why_impossible.specs.Explained.{IsClosedFor}
use Rattle.why_impossible.specs.declared.reason.Reason.{Reason}
use Rattle.command_inputs.specs.Forms.{IsOther, IsUnread, IsWhy}
use Rattle.command_inputs.specs.declared.refusal.Fault.{Fault}
use Rattle.command_inputs.specs.declared.refusal.Fault.TheVariants as fault
use Rattle.command_inputs.specs.declared.refusal.Refusal.{Refusal}
use Rattle.command_inputs.specs.declared.refusal.Refusal.TheVariants as refusal
use Rattle.log_tasks.proofs.Refused.{foreign, unsearched}
use Rattle.log_tasks.specs.Refused.{IsUnsearched}
use Rattle.log_tasks.specs.Tasks.{Pair, Task}
use Rattle.log_tasks.specs.Texts.{IsRefutation, head_of}
use Rattle.refutation_verdicts.proofs.Judged.{unread_unjudged, unsearched_unjudged}
use Rattle.refutation_verdicts.specs.declared.verdict.Verdict.{Verdict}
use Rattle.refutation_verdicts.specs.declared.verdict.Verdict.TheVariants.{Closed, Open, LineRefused}
use Rattle.why_command.specs.Causes.{IsBrokenAt, IsExplained, Plain}
use Rattle.why_command.specs.helpers.Unread.{IsOfFault, IsUnreadable}

module _ (program log refutation : List ℕ) where
  abbrev Refused : Refusal → Type 0
  Refused why = IsExplained program log refutation (Err why)

  pub unread_why : (f : Fault) → IsWhy (IsUnread program log) f → IsWhy Refused f
  unread_why (fault.Refused why) h = unread_unjudged program log (Plain refutation) (IsBrokenAt refutation) why h
  unread_why fault.Memory h = tt

  module _ (pair : Pair program log) where
    pub unreadable_why : (f : Fault) → IsWhy (IsUnreadable refutation) f → IsWhy Refused f
    unreadable_why (fault.Refused (refusal.Refutation line)) h = (pair, h)
    unreadable_why (fault.Refused _) h = absurd h
    unreadable_why fault.Memory h = tt

    module _ (model : Model) (lines : List Line) (text : IsRefutation refutation (head_of model) lines) where
      abbrev plain : Plain refutation
      plain = record { refutation = record { head = head_of model; lines = lines; text = text }; plain = refl }

      unsearched_why : (f : Fault) → IsWhy (IsUnsearched program log) f → IsWhy Refused f
      unsearched_why (fault.Refused why) h = unsearched_unjudged program log (Plain refutation) (IsBrokenAt refutation) plain why h
      unsearched_why fault.Memory h = tt

      pub other_why : (why : Refusal) → IsOther program pair.run why → Refused why
      other_why why h = unsearched_why (fault.Refused why) (foreign pair why h)

      module _ (own : IsOfOther program pair.run → ⊥) where
        -- a fault over the log's clauses is an outcome
        abbrev IsFault : Result (Verdict (List Reason)) Fault → Type 0
        IsFault = IsOfFault pair.code pair.run.log (check (model_clauses model pair.code pair.run.log) lines)

        pub fault_verdict : (x : Result (Verdict (List Reason)) Fault) → IsFault x → IfOk x (λ v. IsExplained program log refutation (Ok v))
        fault_verdict (Ok (LineRefused n)) h = (record { pair = pair; own = own; within = h.0 }, plain, h.1)
        fault_verdict (Ok (Closed reasons)) h = absurd h
        fault_verdict (Ok Open) h = absurd h
        fault_verdict (Err f) h = tt

        pub fault_refused : (x : Result (Verdict (List Reason)) Fault) → IsFault x → IfErr x (IsWhy Refused)
        fault_refused (Ok v) h = tt
        fault_refused (Err f) h = unsearched_why f (unsearched pair own {A = Verdict (List Reason)} (Err f) h)

        module _ (within : IsWithin pair.code pair.run.log) where
          abbrev task : Task program log
          task = record { pair = pair; own = own; within = within }

          pub open_verdict : IsOpen (model_clauses model pair.code pair.run.log) lines → IsExplained program log refutation (Ok Open)
          open_verdict h = (task, plain, h)

          pub closed_verdict : (reasons : List Reason) → IsClosedFor (buffer_of model) (bound_of model) pair.code pair.run.log lines reasons
              → IsExplained program log refutation (Ok (Closed reasons))
          closed_verdict reasons h = (task, plain, (h.closed, h))
