-- From a run of `migrate` over known files to its answers.
use Rattle.std.proofs.Common.{◌≡◌, ◌∙◌, inl, inr, ap, ap₂, refl, sym, ℕ, List, Some, None, IfSome}
use Rattle.std.proofs.lemmas.Option.{same_Some}
use Rattle.kept_logs.proofs.path_log.Logs.{log_or_fault, one_fault}
use Rattle.kept_logs.specs.path_log.Texts.{IsOfOther}
use Rattle.path_walk.proofs.Faults.{one_first}
use Rattle.path_walk.specs.Fits.{Fits, IsFirst}
use Rattle.path_walk.specs.declared.fault.Misfit.{Misfit}
use Rattle.run_log.specs.Logs.{StoredLog}
use Rattle.run_log.specs.tc_base.Names.{Name}
use Rattle.command_inputs.proofs.tc_compile.OnePrograms.{one_refusal, refused_no_code}
use Rattle.command_inputs.proofs.Pairs.{at_pair}
use Rattle.command_inputs.specs.Forms.{Pair}
use Rattle.tc_io.specs.Outside.{Files, ShelfTells, SinkTells, bytes_at}
use Rattle.command_inputs.specs.tc_parser.declared.fault.TextFault.{TextFault}
use Rattle.command_inputs.specs.command_ends.Ends.{AreShort}
use Rattle.command_inputs.proofs.command_ends.Ended.{declines, reported, reported_or_declined, result_at}
use Rattle.command_frame.specs.ByStatus.{IsStatus}
use Rattle.command_frame.specs.End.{End}
use Rattle.command_frame.specs.Run.{Runs}
use Rattle.command_frame.specs.declared.status.Status.TheVariants.{Done}
use Rattle.command_frame.proofs.AllRuns.{if_told}
use Rattle.command_inputs.specs.declared.limits.LogPart.{LogPart}
use Rattle.command_inputs.specs.declared.refusal.LogRefusal.TheVariants.{Form, OtherProgram, Unfit}
use Rattle.command_inputs.specs.declared.refusal.Refusal.{Refusal}
use Rattle.command_inputs.specs.declared.refusal.Refusal.TheVariants.{Program, Log, LogOver}
use Rattle.migrate_command.specs.Answers.{IsMigratedLog, MigrateAnswers}
use Rattle.migrate_command.specs.Meanings.{ComesTo, Migrate, inputs_of, migrate_of, report_of}
use Rattle.migrate_command.specs.Migrated.{IsMigrated, IsUnmigrated, excess_of}

-- two ways in which a log isn't migrated, or one and a way in which it is
module _ (program log : List ℕ) where
  one_over : (p q : LogPart) (m n : ℕ) → IsUnmigrated program log (LogOver p m) → IsUnmigrated program log (LogOver q n) → LogOver p m ≡ LogOver q n
  one_over p q m n f g =
      same_Some (LogOver p m) (LogOver q n)
      (sym f.2 ∙ at_pair (λ code (run : StoredLog). excess_of run.log ≡ Some (LogOver q n)) g.0 f.0 g.2)

  one_unfit : (n q : Name) (m k : Misfit) → IsUnmigrated program log (Log (Unfit n m)) → IsUnmigrated program log (Log (Unfit q k))
      → Log (Unfit n m) ≡ Log (Unfit q k)
  one_unfit n q m k f g =
      let first = at_pair (λ code (run : StoredLog). IsFirst code run.log q k) g.0 f.0 g.3 in
      let one = one_first f.0.code f.0.run.log n q m k f.3 first in
      ap₂ (λ x y. Log (Unfit x y)) one.0 one.1

  -- a log past a limit isn't within the limits
  over_or_within : (p : LogPart) (m : ℕ) (d : Pair program log) → IsUnmigrated program log (LogOver p m) → excess_of d.run.log ≡ None → ⊥
  over_or_within p m d f within =
      let bad : Some (LogOver p m) ≡ None = sym (at_pair (λ code (run : StoredLog). excess_of run.log ≡ Some (LogOver p m)) f.0 d f.2) ∙ within in
      cc

  -- a log of another program isn't of this one
  other_or_own : (d : Pair program log) → IsUnmigrated program log (Log OtherProgram) → (IsOfOther program d.run → ⊥) → ⊥
  other_or_own d f own = own (at_pair (λ code run. IsOfOther program run) f.0 d f.1)

  program_or_read : (fault : TextFault) → IsUnmigrated program log (Program fault) → Pair program log → ⊥
  program_or_read fault f g = refused_no_code program fault g.code f g.programs

  form_or_read : (offset : ℕ) → IsUnmigrated program log (Log (Form offset)) → Pair program log → ⊥
  form_or_read offset f g = log_or_fault log g.run offset g.logs f.2

  one_unmigrated : (r q : Refusal) → IsUnmigrated program log r → IsUnmigrated program log q → r ≡ q
  one_unmigrated (Program r) (Program q) f g = ap (λ x. Program x) (one_refusal program r q f g)
  one_unmigrated (Program r) (Log (Form o)) f g = absurd (refused_no_code program r g.0 f g.1)
  one_unmigrated (Program r) (Log OtherProgram) f g = absurd (program_or_read r f g.0)
  one_unmigrated (Program r) (Log (Unfit n m)) f g = absurd (program_or_read r f g.0)
  one_unmigrated (Program r) (LogOver p m) f g = absurd (program_or_read r f g.0)
  one_unmigrated (Log (Form o)) (Program q) f g = absurd (refused_no_code program q f.0 g f.1)
  one_unmigrated (Log (Form o)) (Log (Form p)) f g = ap (λ x. Log (Form x)) (one_fault log o p f.2 g.2)
  one_unmigrated (Log (Form o)) (Log OtherProgram) f g = absurd (form_or_read o f g.0)
  one_unmigrated (Log (Form o)) (Log (Unfit n m)) f g = absurd (form_or_read o f g.0)
  one_unmigrated (Log (Form o)) (LogOver p m) f g = absurd (form_or_read o f g.0)
  one_unmigrated (Log OtherProgram) (Program q) f g = absurd (program_or_read q g f.0)
  one_unmigrated (Log OtherProgram) (Log (Form p)) f g = absurd (form_or_read p g f.0)
  one_unmigrated (Log OtherProgram) (Log OtherProgram) f g = refl
  one_unmigrated (Log OtherProgram) (Log (Unfit n m)) f g = absurd (other_or_own g.0 f g.1)
  one_unmigrated (Log OtherProgram) (LogOver p m) f g = absurd (other_or_own g.0 f g.1)
  one_unmigrated (Log (Unfit n m)) (Program q) f g = absurd (program_or_read q g f.0)
  one_unmigrated (Log (Unfit n m)) (Log (Form p)) f g = absurd (form_or_read p g f.0)
  one_unmigrated (Log (Unfit n m)) (Log OtherProgram) f g = absurd (other_or_own f.0 g f.1)
  one_unmigrated (Log (Unfit n m)) (Log (Unfit q k)) f g = one_unfit n q m k f g
  one_unmigrated (Log (Unfit n m)) (LogOver p k) f g = absurd (over_or_within p k f.0 g f.2)
  one_unmigrated (LogOver p m) (Program q) f g = absurd (program_or_read q g f.0)
  one_unmigrated (LogOver p m) (Log (Form o)) f g = absurd (form_or_read o g f.0)
  one_unmigrated (LogOver p m) (Log OtherProgram) f g = absurd (other_or_own f.0 g f.1)
  one_unmigrated (LogOver p m) (Log (Unfit n k)) f g = absurd (over_or_within p m g.0 f g.2)
  one_unmigrated (LogOver p m) (LogOver q n) f g = one_over p q m n f g
  one_unmigrated (Program _) _ f g = absurd g
  one_unmigrated (Log (Form _)) _ f g = absurd g
  one_unmigrated (Log OtherProgram) _ f g = absurd g
  one_unmigrated (Log (Unfit _ _)) _ f g = absurd g
  one_unmigrated (LogOver _ _) _ f g = absurd g
  one_unmigrated _ q f g = absurd f

  -- a log that is migrated isn't refused
  pub unmigrated_or_migrated : (r : Refusal) (text : List ℕ) → IsUnmigrated program log r → IsMigrated program log text → ⊥
  unmigrated_or_migrated (Program fault) text f g = program_or_read fault f g.pair
  unmigrated_or_migrated (Log (Form o)) text f g = form_or_read o f g.pair
  unmigrated_or_migrated (Log OtherProgram) text f g = other_or_own g.pair f g.own
  unmigrated_or_migrated (Log (Unfit n m)) text f g =
      let fits = at_pair (λ code (run : StoredLog). Fits code run.log) g.pair f.0 g.fits in
      let bad : Some m ≡ None = sym f.3.there ∙ fits n in
      cc
  unmigrated_or_migrated (LogOver p m) text f g = over_or_within p m g.pair f g.within
  unmigrated_or_migrated _ text f g = f

module _ (call : Migrate) (files : Files) (old new : ShelfTells) (number : ℕ) (j k : SinkTells) (told : old.held ≡ Some files)
    (runs : Runs (migrate_of call) old new number j k) where
  abbrev program : List ℕ
  program = bytes_at files call.program

  abbrev log : List ℕ
  log = bytes_at files call.log

  abbrev e : End
  e = record { status = number; held = new.held; before = j; after = k }

  complete_at : (text : List ℕ) → IsMigratedLog call files e text → AreShort (inputs_of call) files → IsStatus number 0
  complete_at text is short =
      elim (reported (inputs_of call) ComesTo (report_of call) files old new number j k told runs short (λ r f. unmigrated_or_migrated program log r text f is)) [
        | inl x ↦ inl x.1.status
        | inr fault ↦ inr fault
      ]

  answers : MigrateAnswers call files e
  answers = record {
    migrated = λ is.
        let x = result_at (inputs_of call) ComesTo (report_of call) files old new number j k told runs Done tt is in
        (x.0.text.items, x.2.comes, (x.2.held, x.2.wrote));
    complete = complete_at;
    declines =
        declines (inputs_of call) ComesTo (report_of call) files old new number j k told runs (one_unmigrated program log)
        (λ r x f g. unmigrated_or_migrated program log r x.text.items f g);
    others = elim (reported_or_declined (inputs_of call) ComesTo (report_of call) files old new number j k told runs) [
      | inl x ↦ inl x.1.status
      | inr declined ↦ inr declined
    ];
  }

-- where the shelf tells what it holds
pub by_files : (call : Migrate) (old new : ShelfTells) (number : ℕ) (j k : SinkTells) → Runs (migrate_of call) old new number j k
    → IfSome old.held (λ files. MigrateAnswers call files (record { status = number; held = new.held; before = j; after = k }))
by_files call old new number j k runs =
    if_told old.held (λ files. MigrateAnswers call files (record { status = number; held = new.held; before = j; after = k }))
    (λ files is. answers call files old new number j k is runs)
