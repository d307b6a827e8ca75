-- The texts and statuses of outcomes.
use Rattle.std.specs.Prelude.{◌≡◌, ℕ, List, ◌++◌, codes}
use Rattle.std.specs.Fmt.{decimal}
use Rattle.tc_base.specs.Names.{name_text}
use Rattle.path_walk.specs.Misfits.{misfit_text}
use Rattle.tc_parser.specs.Faults.{text_fault_text}
use Rattle.tc_parser.specs.declared.fault.TextFault.{TextFault}
use Rattle.command_frame.specs.declared.status.Status.{Status}
use Rattle.command_frame.specs.declared.status.Status.TheVariants as status
use Rattle.clap_debug_show_cli.specs.Limits.{limit_of}
use Rattle.clap_debug_show_cli.specs.declared.limits.What.{What}
use Rattle.clap_debug_show_cli.specs.declared.limits.What.TheVariants.{LogBytes, Threads}
use Rattle.clap_debug_show_cli.specs.declared.refusal.Refusal.{Refusal}
use Rattle.clap_debug_show_cli.specs.declared.refusal.Refusal.TheVariants.{Over, ProgramRefused, LogBroken, OtherProgram, Unfit, ScheduleRefused}
use Rattle.clap_debug_show_cli.specs.declared.show.Showed.{Showed}
use Rattle.clap_debug_show_cli.specs.declared.show.Showed.TheVariants.{Refused, Text, Page}
use Rattle.clap_debug_show_cli.specs.declared.help.Helped.{Helped}
use Rattle.clap_debug_show_cli.specs.declared.help.Helped.TheVariants.{Explained, Described}

abbrev pub usage_text : List ℕ
usage_text =
    codes "usage: clap_debug_show PROGRAM SCHEDULE [--moves] [--html OUT]\n"
    ++ (codes "usage: clap_debug_show PROGRAM LOG [--html OUT]\n"
    ++ codes "usage: clap_debug_show PROGRAM\n")

abbrev pub what_text : What → List ℕ
what_text LogBytes = codes "log-bytes"
what_text Threads = codes "threads"

-- the log has this number of these, which is above the limit
abbrev pub over_line : What → (number : ℕ) → List ℕ
over_line what number =
    codes "limit "
    ++ (what_text what
    ++ (codes " "
    ++ (decimal number ++ (codes " of " ++ (decimal (limit_of what) ++ codes "\n")))))

-- the line for a program that was refused
abbrev pub program_line : TextFault → List ℕ
program_line fault = codes "program refused: " ++ (text_fault_text fault ++ codes "\n")

-- the line for a refusal
abbrev pub refusal_line : Refusal → List ℕ
refusal_line (Over what number) = over_line what number
refusal_line (ProgramRefused fault) = program_line fault
refusal_line (LogBroken offset) = codes "log refused: form at " ++ (decimal offset ++ codes "\n")
refusal_line OtherProgram = codes "log refused: other program\n"
refusal_line (Unfit name misfit) =
    codes "log refused: " ++ (misfit_text misfit ++ (codes " " ++ (name_text name ++ codes "\n")))
refusal_line (ScheduleRefused line) =
    codes "schedule refused: line " ++ (decimal line ++ codes "\n")

-- the status of a refusal
abbrev pub refusal_status : Refusal → Status
refusal_status (Over _ _) = status.OverLimit
refusal_status (ProgramRefused _) = status.ProgramRefused
refusal_status (LogBroken _) = status.LogRefused
refusal_status OtherProgram = status.LogRefused
refusal_status (Unfit _ _) = status.LogRefused
refusal_status (ScheduleRefused _) = status.InputRefused

-- the text of a shown file may be any text: no clause says how it is worded
abbrev pub IsShowText : Showed → List ℕ → Type 0
IsShowText (Refused refusal) text = text ≡ refusal_line refusal
IsShowText (Text _) text = Unit {0}
IsShowText (Page _ _ _) text = text ≡ codes "page kept\n"

abbrev pub show_status : Showed → Status
show_status (Refused refusal) = refusal_status refusal
show_status (Text _) = status.Done
show_status (Page _ _ _) = status.Done

-- the text of a description may be any text; an explanation begins with the line of the refusal
abbrev pub IsHelpText : Helped → List ℕ → Type 0
IsHelpText (Explained why) text = (more : List ℕ) × (text ≡ program_line why.fault ++ more)
IsHelpText (Described _) text = Unit {0}

abbrev pub help_status : Helped → Status
help_status (Explained _) = status.ProgramRefused
help_status (Described _) = status.Done
