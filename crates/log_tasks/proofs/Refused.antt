-- From a test that fails to why a program and a log aren't searched.
use Rattle.std.proofs.Common.{ℕ, List, Result, Ok, Err, IfOk, IfErr, OnOk}
use Rattle.clap_solve.specs.Solved.{IsWithin}
use Rattle.command_inputs.specs.path_log.Texts.{IsOfOther}
use Rattle.command_inputs.specs.Forms.{IsOther, IsUnread, IsWhy}
use Rattle.command_inputs.specs.declared.refusal.Fault.{Fault}
use Rattle.command_inputs.specs.declared.refusal.Fault.TheVariants as fault
use Rattle.command_inputs.specs.declared.refusal.LogRefusal.TheVariants.{Form, OtherProgram, Unfit}
use Rattle.command_inputs.specs.declared.refusal.Refusal.{Refusal}
use Rattle.command_inputs.specs.declared.refusal.Refusal.TheVariants.{Program, Log, LogOver}
use Rattle.log_tasks.specs.Refused.{HasNoClauses, IsUnsearched}
use Rattle.log_tasks.specs.Tasks.{Pair, Task}

module _ (program log : List ℕ) where
  unread_as : (r : Refusal) → IsUnread program log r → IsUnsearched program log r
  unread_as (Program _) h = h
  unread_as (Log (Form _)) h = h
  unread_as (Log OtherProgram) h = absurd h
  unread_as (Log (Unfit _ _)) h = absurd h
  unread_as _ h = absurd h

  pub unread : (f : Fault) → IsWhy (IsUnread program log) f → IsWhy (IsUnsearched program log) f
  unread (fault.Refused r) h = unread_as r h
  unread fault.Memory h = tt

module _ {program log : List ℕ} (pair : Pair program log) where
  pub foreign : (r : Refusal) → IsOther program pair.run r → IsUnsearched program log r
  foreign (Log OtherProgram) h = (pair, h)
  foreign (Log (Form _)) h = absurd h
  foreign (Log (Unfit _ _)) h = absurd h
  foreign _ h = absurd h

  module _ (own : IsOfOther program pair.run → ⊥) where
    clauseless : (r : Refusal) → HasNoClauses pair.code pair.run.log r → IsUnsearched program log r
    clauseless (Log (Unfit n m)) h = (pair, own, h)
    clauseless (LogOver over n) h = (pair, own, h)
    clauseless (Log (Form _)) h = absurd h
    clauseless (Log OtherProgram) h = absurd h
    clauseless _ h = absurd h

    clauseless_why : (f : Fault) → IsWhy (HasNoClauses pair.code pair.run.log) f → IsWhy (IsUnsearched program log) f
    clauseless_why (fault.Refused r) h = clauseless r h
    clauseless_why fault.Memory h = tt

    -- the same of the results of searches
    pub unsearched : {A : Type 0} (r : Result A Fault) → IfErr r (IsWhy (HasNoClauses pair.code pair.run.log)) → IfErr r (IsWhy (IsUnsearched program log))
    unsearched (Ok x) h = tt
    unsearched (Err f) h = clauseless_why f h

    -- what is found in the log of a pair within the limits is found for a task
    pub searched : {A : Type 0} (P : Pair program log → A → Type 0) (r : Result A Fault) → IfOk r (P pair) → OnOk r (IsWithin pair.code pair.run.log)
        → IfOk r (λ x. (t : Task program log) × P t.pair x)
    searched P (Ok x) h within = (record { pair = pair; own = own; within = within }, h)
    searched P (Err f) h within = tt
