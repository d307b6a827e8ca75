use Rattle.std.proofs.lemmas.Result.{err_from_is_err_and}
use Rattle.clap_solve.proofs.checking.check_start.Goals as goal

pub returns-in_err-new-clause-err : goal.returns-in_err-new-clause-err
returns-in_err-new-clause-err g c =
    let p = err_from_is_err_and c.from_residual-in_err-new.result c.from_residual-in_err-new.ensures.1 in rw (p.1, p.2) tt
