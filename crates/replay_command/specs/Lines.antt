-- The status and the line of each verdict.
use Rattle.std.specs.Prelude.{ℕ, List, ◌++◌, codes}
use Rattle.std.specs.Fmt.{decimal}
use Rattle.run_log.specs.tc_base.Names.{name_text}
use Rattle.schedule_replay.specs.tc_machine.Why.{why_text}
use Rattle.schedule_replay.specs.declared.verdict.Verdict.{Verdict}
use Rattle.schedule_replay.specs.declared.verdict.Verdict.TheVariants as verdict
use Rattle.command_frame.specs.declared.status.Status.{Status}
use Rattle.command_frame.specs.declared.status.Status.TheVariants.{Done, Fails}

abbrev pub verdict_said : Verdict → Status × List ℕ
verdict_said verdict.Reproduces = (Done, codes "reproduces\n")
verdict_said (verdict.Stops n reason) = (
  Fails,
  codes "stops at move "
      ++ (decimal n ++ (codes ": " ++ (why_text reason ++ codes "\n"))),
)
verdict_said verdict.NoFailure = (Fails, codes "no failure\n")
verdict_said verdict.NotStuck = (Fails, codes "not stuck\n")
verdict_said (verdict.OtherFailure n) =
    (Fails, codes "other failure " ++ (name_text n ++ codes "\n"))
verdict_said (verdict.OtherPath n) =
    (Fails, codes "other path " ++ (name_text n ++ codes "\n"))
