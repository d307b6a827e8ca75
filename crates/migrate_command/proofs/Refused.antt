-- From a test that fails to why a log isn't migrated.
use Rattle.std.proofs.Common.{◌≡◌, ℕ, List, None}
use Rattle.kept_logs.specs.path_log.Texts.{IsLog, IsOfOther}
use Rattle.path_walk.specs.Fits.{IsFault}
use Rattle.path_walk.specs.declared.fault.WalkFault.{WalkFault}
use Rattle.path_walk.specs.declared.fault.WalkFault.TheVariants as walk
use Rattle.run_log.specs.Logs.{StoredLog}
use Rattle.path_walk.specs.tc_code.Code.{Code}
use Rattle.command_inputs.specs.tc_compile.Programs.{IsCodeOf}
use Rattle.command_inputs.specs.Forms.{IsOther, IsUnread, IsWhy, Pair}
use Rattle.command_inputs.specs.helpers.Faults.{walk_fault}
use Rattle.command_inputs.specs.declared.refusal.Fault.{Fault}
use Rattle.command_inputs.specs.declared.refusal.Fault.TheVariants.{Refused, Memory}
use Rattle.command_inputs.specs.declared.refusal.LogRefusal.TheVariants.{Form, OtherProgram}
use Rattle.command_inputs.specs.declared.refusal.Refusal.{Refusal}
use Rattle.command_inputs.specs.declared.refusal.Refusal.TheVariants.{Program, Log, LogOver}
use Rattle.migrate_command.specs.Migrated.{IsExcess, IsUnmigrated, excess_of}

module _ (program log : List ℕ) where
  unread_refusal : (r : Refusal) → IsUnread program log r → IsUnmigrated program log r
  unread_refusal (Program fault) h = h
  unread_refusal (Log (Form offset)) h = h
  unread_refusal _ h = absurd h

  pub unread : (fault : Fault) → IsWhy (IsUnread program log) fault → IsWhy (IsUnmigrated program log) fault
  unread (Refused r) h = unread_refusal r h
  unread Memory h = tt

  module _ (code : Code) (run : StoredLog) (f : IsCodeOf program code) (g : IsLog log run) where
    abbrev pub pair : Pair program log
    pair = record { code = code; run = run; programs = f; logs = g }

    pub other : (r : Refusal) → IsOther program run r → IsUnmigrated program log r
    other (Log OtherProgram) h = (pair, h)
    other _ h = absurd h

    module _ (own : IsOfOther program run → ⊥) where
      pub over : (r : Refusal) → IsExcess run.log r → IsUnmigrated program log r
      over (LogOver part number) h = (pair, own, h)
      over _ h = absurd h

      pub unfit : excess_of run.log ≡ None → (fault : WalkFault) → IsFault code run.log fault → IsWhy (IsUnmigrated program log) (walk_fault fault)
      unfit within (walk.Unfit name misfit) h = (pair, own, within, h)
      unfit within walk.Memory h = tt
