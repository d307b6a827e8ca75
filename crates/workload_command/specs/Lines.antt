-- The line and the status of what comes of a workload.
use Rattle.std.specs.Prelude.{ℕ, Bool, true, false, ◌||◌, List, ◌++◌, length, codes, if◌then◌else◌}
use Rattle.std.specs.Fmt.{decimal}
use Rattle.clap_solve.specs.schedule_file.declared.schedule.Schedule.{Schedule}
use Rattle.clap_solve.specs.cdcl_core.declared.answer.Answer.{Answer}
use Rattle.clap_solve.specs.cdcl_core.declared.answer.Answer.TheVariants.{Found, Impossible, Spent}
use Rattle.command_frame.specs.declared.status.Status.{Status}
use Rattle.command_frame.specs.declared.status.Status.TheVariants.{Done, Open}
use Rattle.workload_command.specs.Works.{Workload}
use Rattle.workload_command.specs.declared.work.Work.{Work}

-- the short form of a search's result
abbrev pub found_words : Answer Schedule → List ℕ
found_words (Found schedule) = decimal (length schedule.moves.items) ++ codes " moves"
found_words (Impossible lines) = codes "impossible"
found_words (Spent lines) = codes "spent"

-- the line with the end of the run, and the result under each memory model
abbrev pub work_line : Workload → Work → List ℕ
work_line call x =
    codes "workload " ++ (decimal call.workers ++ (codes " " ++ (decimal call.seed
    ++ (codes ": record " ++ (x.end.now
    ++ (codes ", tso " ++ (found_words x.tso
    ++ (codes ", sc " ++ (found_words x.sc ++ codes "\n")))))))))

-- whether a search was given up
abbrev pub is_spent : Answer Schedule → Bool
is_spent (Spent _) = true
is_spent _ = false

-- whether one of the two searches was given up
abbrev pub has_spent : Work → Bool
has_spent x = is_spent x.tso || is_spent x.sc

abbrev pub work_status : Work → Status
work_status x = if has_spent x then Open else Done
