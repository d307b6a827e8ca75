-- The outcome of a call, by the bytes of its inputs.
use Rattle.std.specs.Prelude.{◌≡◌, ℕ, ◌<◌, ◌≤◌, true, false, List, [], ◌∷◌, length, Some, None}
use Rattle.run_log.specs.Logs.{Log}
use Rattle.tc_code.specs.Code.{Code}
use Rattle.tc_compile.specs.Programs.{IsCodeOf, IsRefusal}
use Rattle.path_log.specs.Faults.{BreaksAt as LogBreaksAt}
use Rattle.run_log.specs.Logs.{StoredLog}
use Rattle.path_log.specs.Texts.{IsLog, IsOfOther}
use Rattle.path_walk.specs.Fits.{IsFirst}
use Rattle.schedule_file.specs.Faults.{BreaksAt as ScheduleBreaksAt}
use Rattle.next_tokens.specs.Texts.{Tells}
use Rattle.command_frame.specs.Inputs.{Texts}
use Rattle.clap_debug_show_cli.specs.Calls.{Shows}
use Rattle.clap_debug_show_cli.specs.Limits.{limit_of}
use Rattle.clap_debug_show_cli.specs.Shown.{IsShown, begins_as_log}
use Rattle.clap_debug_show_cli.specs.declared.help.Explained.{Explained as Why}
use Rattle.clap_debug_show_cli.specs.declared.limits.What.TheVariants.{LogBytes, Threads}
use Rattle.clap_debug_show_cli.specs.declared.refusal.Refusal.{Refusal}
use Rattle.clap_debug_show_cli.specs.declared.refusal.Refusal.TheVariants.{Over, ProgramRefused, LogBroken, OtherProgram, Unfit, ScheduleRefused}
use Rattle.clap_debug_show_cli.specs.declared.show.Showed.{Showed}
use Rattle.clap_debug_show_cli.specs.declared.show.Showed.TheVariants.{Refused, Text, Page}
use Rattle.clap_debug_show_cli.specs.declared.help.Helped.{Helped}
use Rattle.clap_debug_show_cli.specs.declared.help.Helped.TheVariants.{Explained, Described}

-- the refusal names the first test that the log fails against the code of a program
abbrev pub IsThreadsRefusal : Code → Log → Refusal → Type 0
IsThreadsRefusal code log (Over Threads number) =
    (number ≡ length log.threads) × (limit_of Threads < number)
IsThreadsRefusal code log (Unfit name misfit) =
    (length log.threads ≤ limit_of Threads) × IsFirst code log name misfit
IsThreadsRefusal code log _ = ⊥

abbrev pub IsStoredRefusal : Code → (program : List ℕ) → StoredLog → Refusal → Type 0
IsStoredRefusal code program log OtherProgram = IsOfOther program log
IsStoredRefusal code program log r = (IsOfOther program log → ⊥) × IsThreadsRefusal code log.log r

abbrev pub IsFormRefusal : Code → (program file : List ℕ) → Refusal → Type 0
IsFormRefusal code program file (LogBroken offset) = LogBreaksAt file offset
IsFormRefusal code program file r =
    (log : StoredLog) × IsLog file log × IsStoredRefusal code program log r

abbrev pub IsLogRefusal : Code → (program file : List ℕ) → Refusal → Type 0
IsLogRefusal code program file (Over LogBytes number) =
    (number ≡ length file) × (limit_of LogBytes < number)
IsLogRefusal code program file r =
    (length file ≤ limit_of LogBytes) × IsFormRefusal code program file r

-- why a file shows nothing of the code of a program
abbrev pub IsFileRefusal : Code → (program file : List ℕ) → Refusal → Type 0
IsFileRefusal code program file (ScheduleRefused line) =
    (begins_as_log file ≡ false) × ScheduleBreaksAt file line
IsFileRefusal code program file r = (begins_as_log file ≡ true) × IsLogRefusal code program file r

-- a faulty program is reported before a faulty file
abbrev pub IsRefusalOf : (program file : List ℕ) → Refusal → Type 0
IsRefusalOf program file (ProgramRefused fault) = IsRefusal program fault
IsRefusalOf program file r =
    (code : Code) × IsCodeOf program code × IsFileRefusal code program file r

-- the outcome for a program and a file: a refusal, the text, or the page if one is asked for
abbrev pub IsShowing : Shows → (program file : List ℕ) → Showed → Type 0
IsShowing call program file (Refused refusal) = IsRefusalOf program file refusal
IsShowing call program file (Text shown) = (call.page ≡ None) × IsShown program file shown
IsShowing call program file (Page shown name page) =
    (call.page ≡ Some name.now) × IsShown program file shown

-- why a text isn't a program, and the tokens possible where it stops being one
abbrev pub IsExplained : (program : List ℕ) → Why → Type 0
IsExplained program why = IsRefusal program why.fault × Tells program why.fault why.stuck

-- help with a text: why it isn't a program, or what the program has
abbrev pub IsHelpTo : (program : List ℕ) → Helped → Type 0
IsHelpTo program (Explained why) = IsExplained program why
IsHelpTo program (Described has) = IsCodeOf program has.code

-- the same for the bytes of inputs
abbrev pub ShowsOf : Shows → Texts → Showed → Type 0
ShowsOf call (program ∷ file ∷ []) showed = IsShowing call program file showed
ShowsOf call _ showed = ⊥

abbrev pub HelpsWith : Texts → Helped → Type 0
HelpsWith (program ∷ []) helped = IsHelpTo program helped
HelpsWith _ helped = ⊥
