-- Two files have one answer, except for the wording of what is shown.
use Rattle.std.proofs.Common.{◌≡◌, ◌∙◌, ◌≤◌, ap, ap₂, sym, subst, refl, arith, ℕ, List, [], ◌∷◌, length, true, false, true≢false, Option, Some, None}
use Rattle.std.specs.Prelude.{◌++◌}
use Rattle.std.proofs.lemmas.Option.{none-some}
use Rattle.tc_base.specs.Names.{Name}
use Rattle.run_log.specs.Logs.{Log}
use Rattle.memory_models.specs.declared.model.Model.{Model}
use Rattle.tc_base.specs.declared.moves.Move.{Move}
use Rattle.tc_code.specs.Code.{Code}
use Rattle.tc_compile.specs.Programs.{IsCodeOf}
use Rattle.tc_compile.proofs.OnePrograms.{one_code, one_refusal, refused_no_code}
use Rattle.run_log.specs.Logs.{StoredLog}
use Rattle.path_log.specs.Texts.{IsOfOther, head_text, log_text}
use Rattle.path_log.proofs.Logs.{log_or_fault, one_fault, one_log, text_is}
use Rattle.path_walk.specs.Fits.{Fits, IsFirst}
use Rattle.path_walk.proofs.Faults.{one_first}
use Rattle.path_walk.specs.declared.fault.Misfit.{Misfit}
use Rattle.schedule_file.specs.Schedules.{schedule_text}
use Rattle.schedule_file.proofs.Schedules as schedules
use Rattle.command_frame.specs.Answers.{Answer, Gives, ReadFault, TooLong, WriteFault, NoMemory}
use Rattle.command_frame.specs.Causes.{IsAnswerTo, IsOnlyAnswer, IsSaidAs}
use Rattle.clap_debug_show_cli.specs.Answers.{program_line}
use Rattle.clap_debug_show_cli.specs.Calls.{Shows}
use Rattle.clap_debug_show_cli.specs.Causes.{IsThreadsRefusal, IsStoredRefusal, IsFormRefusal, IsLogRefusal, IsFileRefusal, IsRefusalOf, IsShowing, IsHelpTo}
use Rattle.clap_debug_show_cli.specs.Commands.{help_of, show_of}
use Rattle.clap_debug_show_cli.specs.Limits.{limit_of}
use Rattle.clap_debug_show_cli.specs.Shown.{IsShown, IsStory, begins_as_log}
use Rattle.clap_debug_show_cli.specs.declared.limits.What.TheVariants.{LogBytes, Threads}
use Rattle.clap_debug_show_cli.specs.declared.shown.Shown.{Shown as AnyShown}
use Rattle.clap_debug_show_cli.specs.declared.shown.Story.{Story}
use Rattle.clap_debug_show_cli.specs.declared.shown.Story.TheVariants.{Moves, Ways}
use Rattle.clap_debug_show_cli.specs.declared.refusal.Refusal.{Refusal}
use Rattle.clap_debug_show_cli.specs.declared.refusal.Refusal.TheVariants.{Over, ProgramRefused, LogBroken, OtherProgram, Unfit, ScheduleRefused}
use Rattle.clap_debug_show_cli.specs.declared.show.Showed.{Showed}
use Rattle.clap_debug_show_cli.specs.declared.show.Showed.TheVariants.{Refused, Text, Page}
use Rattle.clap_debug_show_cli.specs.declared.help.Helped.{Helped}
use Rattle.clap_debug_show_cli.specs.declared.help.Helped.TheVariants.{Explained, Described}

module _ (code : Code) (log : Log) where
  one_unfit : (n q : Name) (m k : Misfit) → IsFirst code log n m → IsFirst code log q k → Unfit n m ≡ Unfit q k
  one_unfit n q m k f g = let one = one_first code log n q m k f g in ap₂ (λ x y. Unfit x y) one.0 one.1

  one_threads : (a b : Refusal) → IsThreadsRefusal code log a → IsThreadsRefusal code log b → a ≡ b
  one_threads (Over Threads n) (Over Threads m) f g = ap (λ x. Over Threads x) (f.0 ∙ sym g.0)
  one_threads (Over Threads n) (Unfit q k) f g = absurd (omega (arith, f.0, f.1, g.0))
  one_threads (Unfit n m) (Over Threads k) f g = absurd (omega (arith, g.0, g.1, f.0))
  one_threads (Unfit n m) (Unfit q k) f g = one_unfit n q m k f.1 g.1
  one_threads (Over Threads _) _ f g = absurd g
  one_threads (Unfit _ _) _ f g = absurd g
  one_threads _ b f g = absurd f

one_stored : (code : Code) (program : List ℕ) (log : StoredLog) (a b : Refusal) → IsStoredRefusal code program log a → IsStoredRefusal code program log b
    → a ≡ b
one_stored code program log OtherProgram OtherProgram f g = refl
one_stored code program log OtherProgram _ f g = absurd (g.0 f)
one_stored code program log _ OtherProgram f g = absurd (f.0 g)
one_stored code program log a b f g = one_threads code log.log a b f.1 g.1

module _ (code : Code) (program file : List ℕ) where
  one_form : (a b : Refusal) → IsFormRefusal code program file a → IsFormRefusal code program file b → a ≡ b
  one_form (LogBroken o) (LogBroken p) f g = ap (λ x. LogBroken x) (one_fault file o p f g)
  one_form (LogBroken o) _ f g = absurd (log_or_fault file g.0 o g.1 f)
  one_form _ (LogBroken p) f g = absurd (log_or_fault file f.0 p f.1 g)
  one_form a b f g =
      one_stored code program f.0 a b f.2 (subst (λ l. IsStoredRefusal code program l b) (one_log file g.0 f.0 g.1 f.1) g.2)

  one_log_refusal : (a b : Refusal) → IsLogRefusal code program file a → IsLogRefusal code program file b → a ≡ b
  one_log_refusal (Over LogBytes n) (Over LogBytes m) f g = ap (λ x. Over LogBytes x) (f.0 ∙ sym g.0)
  one_log_refusal (Over LogBytes n) _ f g = absurd (omega (arith, f.0, f.1, g.0))
  one_log_refusal _ (Over LogBytes m) f g = absurd (omega (arith, g.0, g.1, f.0))
  one_log_refusal a b f g = one_form a b f.1 g.1

  one_file_refusal : (a b : Refusal) → IsFileRefusal code program file a → IsFileRefusal code program file b → a ≡ b
  one_file_refusal (ScheduleRefused n) (ScheduleRefused m) f g = ap (λ x. ScheduleRefused x) (schedules.one_fault file n m f.1 g.1)
  one_file_refusal (ScheduleRefused n) _ f g = absurd (true≢false (sym g.0 ∙ f.0))
  one_file_refusal _ (ScheduleRefused m) f g = absurd (true≢false (sym f.0 ∙ g.0))
  one_file_refusal a b f g = one_log_refusal a b f.1 g.1

-- a log's text begins as a log, and a schedule's doesn't
head_begins : (digest : Option (List ℕ)) (model : Model) (more : List ℕ) → begins_as_log (head_text digest model ++ more) ≡ true
head_begins None model more = refl
head_begins (Some digest) model more = refl

log_begins : (log : StoredLog) (file : List ℕ) → file ≡ log_text log → begins_as_log file ≡ true
log_begins log file is = ap begins_as_log is ∙ head_begins log.digest log.log.model _

schedule_begins : (model : Model) (moves : List Move) (file : List ℕ) → file ≡ schedule_text model moves → begins_as_log file ≡ false
schedule_begins model moves file is = ap begins_as_log is

-- a log whose paths are shown isn't refused
stored_or_shown : (code : Code) (program : List ℕ) (log : StoredLog) (a : Refusal) → (IsOfOther program log → ⊥) → length log.log.threads ≤ limit_of Threads
    → Fits code log.log → IsStoredRefusal code program log a → ⊥
stored_or_shown code program log OtherProgram recorded few fits h = recorded h
stored_or_shown code program log (Over Threads n) recorded few fits h = omega (arith, few, h.1.0, h.1.1)
stored_or_shown code program log (Unfit n m) recorded few fits h = none-some m (sym (fits n) ∙ h.1.1.there)
stored_or_shown code program log _ recorded few fits h = h.1

module _ (code : Code) (program file : List ℕ) where
  -- a file that is shown isn't refused
  shown_or_refused : (story : Story) (a : Refusal) → IsStory code program file story → IsFileRefusal code program file a → ⊥
  shown_or_refused (Moves schedule told) (ScheduleRefused n) f g =
      schedules.schedule_or_fault file schedule.model schedule.moves.items n schedule.has_text f.0 g.1
  shown_or_refused (Moves schedule told) _ f g = true≢false (sym g.0 ∙ schedule_begins schedule.model schedule.moves.items file f.0)
  shown_or_refused (Ways log paths) (ScheduleRefused n) f g = true≢false (sym (log_begins log file (text_is f.0.is_log)) ∙ g.0)
  shown_or_refused (Ways log paths) (Over LogBytes n) f g = omega (arith, f.0.short, g.1.0, g.1.1)
  shown_or_refused (Ways log paths) (LogBroken o) f g = log_or_fault file log o f.0.is_log g.1.1
  shown_or_refused (Ways log paths) a f g =
      stored_or_shown code program log a f.0.recorded f.0.few f.1
      (subst (λ l. IsStoredRefusal code program l a) (one_log file g.1.1.0 log g.1.1.1 f.0.is_log) g.1.1.2)

module _ (program file : List ℕ) where
  one_refused : (a b : Refusal) → (code other : Code) → IsCodeOf program code → IsCodeOf program other → IsFileRefusal code program file a
      → IsFileRefusal other program file b → a ≡ b
  one_refused a b code other is also f g =
      one_file_refusal code program file a b f (subst (λ c. IsFileRefusal c program file b) (one_code program other code also is) g)

  no_refusal : (shown : AnyShown) (a : Refusal) (code : Code) → IsShown program file shown → IsCodeOf program code → IsFileRefusal code program file a → ⊥
  no_refusal shown a code f is g =
      shown_or_refused shown.code program file shown.story a f.story
      (subst (λ c. IsFileRefusal c program file a) (one_code program code shown.code is f.code) g)

  -- two refusals are the same
  one_refusal_of : (a b : Refusal) → IsRefusalOf program file a → IsRefusalOf program file b → a ≡ b
  one_refusal_of (ProgramRefused r) (ProgramRefused q) f g = ap (λ x. ProgramRefused x) (one_refusal program r q f g)
  one_refusal_of (ProgramRefused r) _ f g = absurd (refused_no_code program r g.0 f g.1)
  one_refusal_of a (ProgramRefused q) f g = absurd (refused_no_code program q f.0 g f.1)
  one_refusal_of a b f g = one_refused a b f.0 g.0 f.1 g.1 f.2 g.2

  -- there isn't both a refusal and something shown
  refused_or_shown : (shown : AnyShown) (a : Refusal) → IsShown program file shown → IsRefusalOf program file a → ⊥
  refused_or_shown shown (ProgramRefused r) f g = refused_no_code program r shown.code g f.code
  refused_or_shown shown a f g = no_refusal shown a g.0 f g.1 g.2

module _ (call : Shows) where
  said_itself : (a : Showed) → IsSaidAs (show_of call) a a
  said_itself a = record { text = λ text h. h; status = refl }

  -- the outcome for two files is put in one way
  one_showing : (program file : List ℕ) (a b : Showed) → IsShowing call program file a → IsShowing call program file b → IsSaidAs (show_of call) a b
  one_showing program file (Refused r) (Refused q) f g =
      subst (λ x. IsSaidAs (show_of call) (Refused r) (Refused x)) (one_refusal_of program file r q f g) (said_itself (Refused r))
  one_showing program file (Refused r) (Text y) f g = absurd (refused_or_shown program file y r g.1 f)
  one_showing program file (Refused r) (Page y name page) f g = absurd (refused_or_shown program file y r g.1 f)
  one_showing program file (Text x) (Refused q) f g = absurd (refused_or_shown program file x q f.1 g)
  one_showing program file (Page x name page) (Refused q) f g = absurd (refused_or_shown program file x q f.1 g)
  one_showing program file (Text x) (Text y) f g = record { text = λ text h. tt; status = refl }
  one_showing program file (Page x name page) (Page y other text) f g = record { text = λ text h. h; status = refl }
  one_showing program file (Text x) (Page y name page) f g = absurd (none-some name.now (sym f.0 ∙ g.0))
  one_showing program file (Page x name page) (Text y) f g = absurd (none-some name.now (sym g.0 ∙ f.0))

  pub only_shown : (program file : List ℕ) (a : Answer Showed) → IsAnswerTo (show_of call) (program ∷ file ∷ []) a
      → IsOnlyAnswer (show_of call) (program ∷ file ∷ []) a
  only_shown program file (Gives x) is = (is.0, is.1, λ other comes. one_showing program file x other is.1 comes)
  only_shown program file (TooLong limit) is = is
  only_shown program file (ReadFault name) is = is
  only_shown program file (WriteFault name) is = is
  only_shown program file NoMemory is = is

module _ (name : List ℕ) where
  one_help : (program : List ℕ) (a b : Helped) → IsHelpTo program a → IsHelpTo program b → IsSaidAs (help_of name) a b
  one_help program (Explained why) (Explained other) f g = record {
    text = λ text h. (h.0, h.1 ∙ ap (λ r. program_line r ++ h.0) (one_refusal program other.fault why.fault g.0 f.0));
    status = refl;
  }
  one_help program (Described has) (Described other) f g = record { text = λ text h. tt; status = refl }
  one_help program (Explained why) (Described has) f g = absurd (refused_no_code program why.fault has.code f.0 g)
  one_help program (Described has) (Explained why) f g = absurd (refused_no_code program why.fault has.code g.0 f)

  pub only_help : (program : List ℕ) (a : Answer Helped) → IsAnswerTo (help_of name) (program ∷ []) a → IsOnlyAnswer (help_of name) (program ∷ []) a
  only_help program (Gives x) is = (is.0, is.1, λ other comes. one_help program x other is.1 comes)
  only_help program (TooLong limit) is = is
  only_help program (ReadFault failed) is = is
  only_help program (WriteFault failed) is = is
  only_help program NoMemory is = is
