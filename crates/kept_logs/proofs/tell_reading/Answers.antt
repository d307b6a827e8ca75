use Rattle.std.proofs.Common.{arith}
use Rattle.path_log.proofs.Logs.{is_log_of}
use Rattle.kept_logs.proofs.tell_reading.Goals as goal

pub returns : goal.returns
returns c log has is = is_log_of c.args.text.now log (λ i. omega (arith, c.type_inv.text i)) has is
