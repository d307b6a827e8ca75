use Rattle.std.proofs.Common.{arith}
use Rattle.std.proofs.lemmas.Result.{err_from_is_err_and}
use Rattle.path_log.proofs.Logs.{is_read, same_log, only_memory}
use Rattle.path_log.proofs.reading.read_log.Goals as goal

pub returns-clause-found : goal.returns-clause-found
returns-clause-found c = is_read c.args.text.now _ (λ i. omega (arith, c.type_inv.text i)) c.in_ok-log.ensures

pub returns-clause-again : goal.returns-clause-again
returns-clause-again c = same_log c.args.text.now _ (λ i. omega (arith, c.type_inv.text i)) c.in_ok-log.ensures

pub returns-in_err-log-clause-again : goal.returns-in_err-log-clause-again
returns-in_err-log-clause-again c = λ s is.
    let p = err_from_is_err_and c.from_residual.result c.from_residual.ensures.1 in
    rw (p.1, p.2) (only_memory c.in_err-log.field-0.0 c.args.text.now c.in_err-log.ensures s is)
