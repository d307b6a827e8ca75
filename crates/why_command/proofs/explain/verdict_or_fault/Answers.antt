use Rattle.std.proofs.Common.{subst}
use Rattle.clap_solve.specs.Faults.{IsCheckImpossibleFault}
use Rattle.why_command.proofs.explain.verdict_or_fault.Goals as goal

pub returns-in-Build : goal.returns-in-Build
returns-in-Build c = λ buffered bound code log lines is.
    c.refuse_built.ensures code log (subst (IsCheckImpossibleFault buffered bound code log lines) c.in-Build.is is).1
