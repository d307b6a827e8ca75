-- An answer is taken, or there is one reason why it isn't.
use Rattle.std.proofs.Common.{◌≡◌, ℕ, ℤ, List, ap, subst, Option, Result, Ok, Err, IfOk, IfErr, OnOk}
use Rattle.clap_solve.specs.Solved.{IsWithin}
use Rattle.dimacs_text.proofs.Breaks.{answer_or_break, one_answer, one_break}
use Rattle.dimacs_text.specs.Answers.{IsAnswerWith}
use Rattle.memory_models.specs.declared.model.Model.{Model}
use Rattle.command_inputs.proofs.path_log.Logs.{log_or_fault}
use Rattle.command_inputs.specs.path_log.Texts.{IsOfOther}
use Rattle.run_log.specs.Logs.{StoredLog}
use Rattle.tc_code.specs.Code.{Code}
use Rattle.command_inputs.proofs.tc_compile.OnePrograms.{refused_no_code}
use Rattle.command_inputs.specs.Forms.{IsOther, IsUnread, IsWhy}
use Rattle.command_inputs.specs.declared.refusal.Fault.{Fault}
use Rattle.command_inputs.specs.declared.refusal.Fault.TheVariants as fault
use Rattle.command_inputs.specs.declared.refusal.LogRefusal.TheVariants.{Form, OtherProgram, Unfit}
use Rattle.command_inputs.specs.declared.refusal.Refusal.{Refusal}
use Rattle.command_inputs.specs.declared.refusal.Refusal.TheVariants.{Program, Log, LogOver, Answer}
use Rattle.log_tasks.specs.Refused.{HasNoClauses}
use Rattle.log_tasks.specs.Tasks.{Pair, model_of}
use Rattle.log_tasks.proofs.Tasks.{at_pair, one_unsearched, task_or_refusal}
use Rattle.import_command.specs.Calls.{Answered, IsUntaken}
use Rattle.import_command.specs.Meanings.{IsMade}
use Rattle.import_command.specs.declared.imported.Imported.{Imported}
use Rattle.import_command.specs.declared.imported.Imported.TheVariants.{Found, False}
use Rattle.import_command.specs.helpers.Taken.{HasItsText, IsTakenUnder, IsUnanswered, taken_of}

module _ {program log answer : List ℕ} where
  made : (asked : Option Model) (a : Answered program log answer) (x : Imported)
      → IsTakenUnder (model_of asked a.task.pair) a.task.pair.code a.task.pair.run.log a.literals (taken_of x) → HasItsText x → IsMade asked a x
  made asked a (Found schedule text) h k = (h.0, h.1, h.2, k)
  made asked a (False number) h k = h

  -- what holds of the code, the log and the literals of some files holds of any others that they are
  pub at_answered : (P : Code → StoredLog → List ℤ → Type 0) (a b : Answered program log answer) → P a.task.pair.code a.task.pair.run a.literals
      → P b.task.pair.code b.task.pair.run b.literals
  at_answered P a b h =
      subst (λ ls. P b.task.pair.code b.task.pair.run ls) (one_answer answer a.literals b.literals a.reads b.reads)
      (at_pair (λ code run. P code run a.literals) a.task.pair b.task.pair h)

  -- files with a reason against them aren't taken
  pub taken_or_refusal : (a : Answered program log answer) (r : Refusal) → IsUntaken program log answer r → ⊥
  taken_or_refusal a (Program fault) h = task_or_refusal a.task (Program fault) h
  taken_or_refusal a (Log (Form offset)) h = task_or_refusal a.task (Log (Form offset)) h
  taken_or_refusal a (Answer line) h = answer_or_break answer a.literals line a.reads h.1
  taken_or_refusal a r h = task_or_refusal a.task r h.1

-- the reason is one
module _ (program log answer : List ℕ) where
  pub one_untaken : (r q : Refusal) → IsUntaken program log answer r → IsUntaken program log answer q → r ≡ q
  one_untaken (Program a) (Program b) f g = one_unsearched program log (Program a) (Program b) f g
  one_untaken (Program a) (Log (Form o)) f g = one_unsearched program log (Program a) (Log (Form o)) f g
  one_untaken (Log (Form o)) (Program b) f g = one_unsearched program log (Log (Form o)) (Program b) f g
  one_untaken (Log (Form o)) (Log (Form p)) f g = one_unsearched program log (Log (Form o)) (Log (Form p)) f g
  one_untaken (Program a) (Answer n) f g = absurd (refused_no_code program a g.0.code f g.0.programs)
  one_untaken (Answer m) (Program b) f g = absurd (refused_no_code program b f.0.code g f.0.programs)
  one_untaken (Log (Form o)) (Answer n) f g = absurd (log_or_fault log g.0.run o g.0.logs f.2)
  one_untaken (Answer m) (Log (Form p)) f g = absurd (log_or_fault log f.0.run p f.0.logs g.2)
  one_untaken (Answer m) (Answer n) f g = ap (λ x. Answer x) (one_break answer m n f.1 g.1)
  one_untaken (Program a) q f g = one_unsearched program log (Program a) q f g.1
  one_untaken (Log (Form o)) q f g = one_unsearched program log (Log (Form o)) q f g.1
  one_untaken (Answer m) q f g = absurd (answer_or_break answer g.0.0 m g.0.1 f.1)
  one_untaken r (Program b) f g = one_unsearched program log r (Program b) f.1 g
  one_untaken r (Log (Form p)) f g = one_unsearched program log r (Log (Form p)) f.1 g
  one_untaken r (Answer n) f g = absurd (answer_or_break answer f.0.0 n f.0.1 g.1)
  one_untaken r q f g = one_unsearched program log r q f.1 g.1

module _ (program log answer : List ℕ) where
  -- a program or a log without its form
  unread : (r : Refusal) → IsUnread program log r → IsUntaken program log answer r
  unread (Program fault) h = h
  unread (Log (Form offset)) h = h
  unread _ h = absurd h

  pub unread_both : (f : Fault) → IsWhy (IsUnread program log) f → IsWhy (IsUntaken program log answer) f
  unread_both (fault.Refused r) h = unread r h
  unread_both fault.Memory h = tt

  module _ (pair : Pair program log) where
    -- a text that isn't an answer
    unanswered_so : (r : Refusal) → IsUnanswered answer r → IsUntaken program log answer r
    unanswered_so (Answer line) h = (pair, h)
    unanswered_so _ h = absurd h

    pub unanswered : (f : Fault) → IsWhy (IsUnanswered answer) f → IsWhy (IsUntaken program log answer) f
    unanswered (fault.Refused r) h = unanswered_so r h
    unanswered fault.Memory h = tt

    module _ (literals : List ℤ) (reads : IsAnswerWith answer literals) where
      -- a log of another program
      pub foreign : (r : Refusal) → IsOther program pair.run r → IsUntaken program log answer r
      foreign (Log OtherProgram) h = ((literals, reads), (pair, h))
      foreign _ h = absurd h

      -- a log without clauses
      unbuilt_so : (IsOfOther program pair.run → ⊥) → (r : Refusal) → HasNoClauses pair.code pair.run.log r → IsUntaken program log answer r
      unbuilt_so own (Log (Unfit n m)) h = ((literals, reads), (pair, own, h))
      unbuilt_so own (LogOver over n) h = ((literals, reads), (pair, own, h))
      unbuilt_so own (Log (Form _)) h = absurd h
      unbuilt_so own (Log OtherProgram) h = absurd h
      unbuilt_so own _ h = absurd h

      unbuilt_why : (IsOfOther program pair.run → ⊥) → (f : Fault) → IsWhy (HasNoClauses pair.code pair.run.log) f → IsWhy (IsUntaken program log answer) f
      unbuilt_why own (fault.Refused r) h = unbuilt_so own r h
      unbuilt_why own fault.Memory h = tt

      pub unbuilt : {A : Type 0} → (IsOfOther program pair.run → ⊥) → (r : Result A Fault) → IfErr r (IsWhy (HasNoClauses pair.code pair.run.log))
          → IfErr r (IsWhy (IsUntaken program log answer))
      unbuilt own (Ok x) h = tt
      unbuilt own (Err f) h = unbuilt_why own f h

      -- what is made of the literals is made of the answer
      pub imported : (asked : Option Model) (m : Model) → (IsOfOther program pair.run → ⊥) → m ≡ model_of asked pair → (r : Result Imported Fault)
          → IfOk r (λ x. IsTakenUnder m pair.code pair.run.log literals (taken_of x)) → IfOk r HasItsText → OnOk r (IsWithin pair.code pair.run.log)
          → IfOk r (λ x. (a : Answered program log answer) × IsMade asked a x)
      imported asked m own meant (Ok x) taken text within =
          let a : Answered program log answer =
          record { task = record { pair = pair; own = own; within = within }; literals = literals; reads = reads } in
          (a, made asked a x (subst (λ n. IsTakenUnder n pair.code pair.run.log literals (taken_of x)) meant taken) text)
      imported asked m own meant (Err f) taken text within = tt
