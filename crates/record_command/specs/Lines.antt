-- The status and the line of each end of a run.
use Rattle.std.specs.Prelude.{ℕ, ◌+◌, List, ◌++◌, codes}
use Rattle.std.specs.Fmt.{decimal}
use Rattle.tc_base.specs.Names.{name_text}
use Rattle.tc_record.specs.Ends.{limit_of}
use Rattle.tc_record.specs.declared.end.End.{End}
use Rattle.tc_record.specs.declared.end.End.TheVariants as end
use Rattle.tc_record.specs.declared.end.Which.{Which}
use Rattle.tc_record.specs.declared.end.Which.TheVariants.{Threads, Depth, Steps}
use Rattle.command_frame.specs.declared.status.Status.{Status}
use Rattle.command_frame.specs.declared.status.Status.TheVariants.{Done, Fails, OverLimit, Open}
use Rattle.record_command.specs.declared.ending.Ending.{Ending}
use Rattle.record_command.specs.declared.ending.Ending.TheVariants.{Finished, StepLimit, Over}
use Rattle.record_command.specs.declared.ending.Outcome.{Outcome}
use Rattle.record_command.specs.declared.ending.Outcome.TheVariants.{Failed, Deadlock}
use Rattle.record_command.specs.declared.ending.Ran.{Ran}
use Rattle.record_command.specs.declared.ending.Ran.TheVariants.{Logged, Unlogged}

-- the word for a limit of a run
abbrev pub which_text : Which → List ℕ
which_text Threads = codes "threads"
which_text Depth = codes "depth"
which_text Steps = codes "steps"

-- the line that says that a run exceeded this limit by one
abbrev pub over_line : Which → List ℕ
over_line which = codes "limit " ++ (which_text which
    ++ (codes " " ++ (decimal (limit_of which + 1)
    ++ (codes " of " ++ (decimal (limit_of which) ++ codes "\n")))))

abbrev pub outcome_line : Outcome → List ℕ
outcome_line (Failed f) = codes "failed "
    ++ (name_text f.name ++ (codes " line " ++ (decimal f.line
    ++ (codes " after " ++ (decimal f.moves ++ codes " moves\n")))))
outcome_line (Deadlock moves) = codes "deadlock after " ++ (decimal moves ++ codes " moves\n")

-- the status and the line of a run that ended so, without a log
abbrev pub ending_said : Ending → Status × List ℕ
ending_said Finished = (Fails, codes "finished\n")
ending_said (StepLimit moves) =
    (Open, codes "no failure in " ++ (decimal moves ++ codes " moves\n"))
ending_said (Over which) = (OverLimit, over_line which)

abbrev pub ran_said : Ran → Status × List ℕ
ran_said (Logged o text) = (Done, outcome_line o)
ran_said (Unlogged e) = ending_said e

-- the status of a run that ended
abbrev pub end_status : End → Status
end_status end.Failed = Done
end_status end.Deadlock = Done
end_status end.Finished = Fails
end_status (end.Over _) = OverLimit
end_status end.StepLimit = Open
