use Rattle.std.proofs.Common.{subst}
use Rattle.certificate_check.proofs.Known.{read_comes, unread_comes}
use Rattle.certificate_check.specs.helpers.Known.{Knows}
use Rattle.certificate_check.proofs.command.CheckCertificateWorkInPieces.finish.Goals as goal

pub returns-in-Err : goal.returns-in-Err
returns-in-Err c = λ t bytes known. unread_comes t bytes c.in-Err.refusal (subst (Knows t bytes) c.in-Err.is known)

pub returns-in_ok-outcome-in-Ok : goal.returns-in_ok-outcome-in-Ok
returns-in_ok-outcome-in-Ok c = λ t bytes known.
    read_comes t bytes c.in-Ok.incoming c.in_ok-outcome-in-Ok.field-0 c.in_ok-outcome-in-Ok.ensures (subst (Knows t bytes) c.in-Ok.is known)
