-- What `workload` means.
use Rattle.std.specs.Prelude.{[], Result, Ok, Err}
use Rattle.command_inputs.specs.command_ends.Outcomes.{Report, command_of}
use Rattle.command_frame.specs.Inputs.{Texts}
use Rattle.command_frame.specs.Meaning.{Meaning}
use Rattle.command_inputs.specs.declared.refusal.Refusal.{Refusal}
use Rattle.workload_command.specs.Lines.{work_line, work_status}
use Rattle.workload_command.specs.Works.{IsUnworked, IsWorkOf, Workload}
use Rattle.workload_command.specs.declared.work.Work.{Work}

-- what comes of it without any input
abbrev pub ComesTo : Workload → Texts → Result Work Refusal → Type 0
ComesTo call [] (Ok x) = IsWorkOf call x
ComesTo call [] (Err r) = IsUnworked call r
ComesTo call _ outcome = ⊥

-- what is done with it: nothing is kept
abbrev pub report_of : Workload → Report Work
report_of call = record { keeps_of = λ _. []; line_of = work_line call; status_of = work_status }

-- `workload`
abbrev pub workload_of : Workload → Meaning (Result Work Refusal)
workload_of call = command_of [] (ComesTo call) (report_of call)
