-- The status and the line of each refusal.
use Rattle.std.specs.Prelude.{ℕ, List, ◌++◌, codes}
use Rattle.std.specs.Fmt.{decimal}
use Rattle.tc_base.specs.Names.{name_text}
use Rattle.path_walk.specs.Misfits.{misfit_text}
use Rattle.tc_parser.specs.Faults.{text_fault_text}
use Rattle.tc_parser.specs.declared.fault.TextFault.{TextFault}
use Rattle.command_frame.specs.declared.status.Status.{Status}
use Rattle.command_frame.specs.declared.status.Status.TheVariants as status
use Rattle.command_inputs.specs.Limits.{limit_of, part_text}
use Rattle.command_inputs.specs.declared.refusal.LogRefusal.{LogRefusal}
use Rattle.command_inputs.specs.declared.refusal.LogRefusal.TheVariants.{Form, OtherProgram, Unfit}
use Rattle.command_inputs.specs.declared.refusal.Refusal.{Refusal}
use Rattle.command_inputs.specs.declared.refusal.Refusal.TheVariants.{Program, Log, LogOver, Schedule, Refutation, Answer}

abbrev pub log_line : LogRefusal → List ℕ
log_line (Form offset) = codes "log refused: form at " ++ (decimal offset ++ codes "\n")
log_line OtherProgram = codes "log refused: other program\n"
log_line (Unfit name misfit) =
    codes "log refused: " ++ (misfit_text misfit ++ (codes " " ++ (name_text name ++ codes "\n")))

abbrev pub refusal_said : Refusal → Status × List ℕ
refusal_said (Program fault) =
    (status.ProgramRefused, codes "program refused: " ++ (text_fault_text fault ++ codes "\n"))
refusal_said (Log refusal) = (status.LogRefused, log_line refusal)
-- the log has this many of these, which are too many
refusal_said (LogOver part number) = (
  status.OverLimit,
  codes "limit " ++ (part_text part
      ++ (codes " " ++ (decimal number
      ++ (codes " of " ++ (decimal (limit_of part) ++ codes "\n"))))),
)
refusal_said (Schedule line) =
    (status.InputRefused, codes "schedule refused: line " ++ (decimal line ++ codes "\n"))
refusal_said (Refutation line) =
    (status.InputRefused, codes "refutation refused: line " ++ (decimal line ++ codes "\n"))
refusal_said (Answer line) =
    (status.InputRefused, codes "answer refused: line " ++ (decimal line ++ codes "\n"))
