use Rattle.std.proofs.Common.{◌++◌, subst, sym}
use Rattle.std.proofs.lemmas.Result.{on_ok_weaker}
use Rattle.certificate_check.proofs.Known.{known_on, known_read, unread_on}
use Rattle.certificate_check.specs.helpers.Known.{Knows}
use Rattle.certificate_check.proofs.command.CheckCertificateWorkInPieces.take.Goals as goal

pub take-requires : goal.take-requires
take-requires c = known_read c.requires.0 c.requires.1 c.in-Ok.incoming (subst (Knows c.requires.0 c.requires.1) c.in-Ok.is c.requires.2)

pub returns-in-Err : goal.returns-in-Err
returns-in-Err c = λ t front was.
    subst (Knows t (front ++ c.args.piece.now)) (sym c.in-Err.is)
    (unread_on t front c.args.piece.now c.in-Err.field-0 (subst (Knows t front) c.in-Err.is was))

pub returns-in-Ok : goal.returns-in-Ok
returns-in-Ok c =
    on_ok_weaker c.take.result
    (λ on t front was. known_on t front c.args.piece.now c.in-Ok.incoming c.take.new.self on.0 on.1 (subst (Knows t front) c.in-Ok.is was))
    c.take.ensures
