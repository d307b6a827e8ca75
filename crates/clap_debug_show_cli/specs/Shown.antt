-- What a file shows of a program.
use Rattle.std.specs.Prelude.{◌≡◌, ◌≤◌, ℕ, Bool, List, length, codes, nat_eq}
use Rattle.std.specs.List.{starts_with}
use Rattle.store_buffers.specs.Buffers.{buffer_of}
use Rattle.tc_code.specs.Code.{Code}
use Rattle.tc_compile.specs.Programs.{IsCodeOf}
use Rattle.run_log.specs.Logs.{StoredLog}
use Rattle.path_log.specs.Texts.{IsLog, IsOfOther}
use Rattle.path_walk.specs.Fits.{Fits}
use Rattle.path_walk.specs.Paths.{paths_of}
use Rattle.schedule_file.specs.Schedules.{schedule_text}
use Rattle.schedule_file.specs.declared.schedule.Schedule.{Schedule}
use Rattle.show_rows.specs.Rows.{AreTold}
use Rattle.show_rows.specs.declared.told.Told.{Told}
use Rattle.clap_debug_show_cli.specs.Limits.{limit_of}
use Rattle.clap_debug_show_cli.specs.declared.limits.What.TheVariants.{LogBytes, Threads}
use Rattle.clap_debug_show_cli.specs.declared.shown.Shown.{Shown}
use Rattle.clap_debug_show_cli.specs.declared.shown.Story.{Story}
use Rattle.clap_debug_show_cli.specs.declared.shown.Story.TheVariants.{Moves, Ways}

-- a file that begins with `CLPL` is read as a log, and any other as a schedule
abbrev pub begins_as_log : List ℕ → Bool
begins_as_log file = starts_with nat_eq file (codes "CLPL")

-- the rows are the history of the schedule's moves as far as they can be made, with this end
abbrev pub IsTold : Code → Schedule → Told → Type 0
IsTold code schedule told =
    AreTold (buffer_of schedule.model) code schedule.moves.items told.rows.items told.end

-- the bytes are a short enough log of this program, with few enough threads
pub record IsLogOf (program bytes : List ℕ) (log : StoredLog) : Type 0 where
  pub is_log : IsLog bytes log
  pub short : length bytes ≤ limit_of LogBytes
  pub few : length log.log.threads ≤ limit_of Threads
  pub recorded : IsOfOther program log → ⊥

-- a schedule shows what its moves did, and a log shows the paths of its threads in the code
abbrev pub IsStory : Code → (program file : List ℕ) → Story → Type 0
IsStory code program file (Moves schedule told) =
    (file ≡ schedule_text schedule.model schedule.moves.items) × IsTold code schedule told
IsStory code program file (Ways log paths) =
    IsLogOf program file log × Fits code log.log × (paths ≡ paths_of code log.log)

-- what a file shows of a program
pub record IsShown (program file : List ℕ) (shown : Shown) : Type 0 where
  pub code : IsCodeOf program shown.code
  pub story : IsStory shown.code program file shown.story
