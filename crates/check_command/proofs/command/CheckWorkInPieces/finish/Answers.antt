use Rattle.std.proofs.Common.{subst}
use Rattle.std.proofs.lemmas.Result.{IfOk-weaker}
use Rattle.check_command.proofs.Known.{read_comes, unread_comes}
use Rattle.check_command.specs.helpers.Known.{Knows}
use Rattle.check_command.proofs.command.CheckWorkInPieces.finish.Goals as goal

pub returns-in-Ok : goal.returns-in-Ok
returns-in-Ok c =
    IfOk-weaker c.outcome.result _ _
    (λ x is t bytes known. read_comes t bytes c.in-Ok.incoming x is (subst (Knows t bytes) c.in-Ok.is known)) c.outcome.ensures

pub returns-in-Err : goal.returns-in-Err
returns-in-Err c = λ t bytes known. unread_comes t bytes c.in-Err.refusal (subst (Knows t bytes) c.in-Err.is known)
