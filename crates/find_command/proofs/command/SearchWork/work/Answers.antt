use Rattle.std.proofs.Common.{subst}
use Rattle.find_command.specs.Calls.{plain_search}
use Rattle.find_command.specs.Findings.{AreFindings}
use Rattle.find_command.proofs.command.SearchWork.work.Goals as goal

pub returns-in-Ok : goal.returns-in-Ok
returns-in-Ok c =
    subst (λ program. AreFindings program (plain_search c.args.self.now) c.in-Ok.findings) c.deref.ensures.value c.in-Ok.ensures.found
