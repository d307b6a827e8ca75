use Rattle.std.proofs.Common.{ap, refl}
use Rattle.std.specs.Result.{is_ok}
use Rattle.std.proofs.lemmas.Result.{IfOk-weaker}
use Rattle.refutation_input.proofs.Stages.{broken_so, ended_so}
use Rattle.refutation_input.proofs.incoming.Incoming.outcome.Goals as goal

pub returns-in-Ok : goal.returns-in-Ok
returns-in-Ok c =
    IfOk-weaker c.outcome.result _ _
    (λ x is program log bytes read.
    ended_so program log c.args.self bytes read (c.finish.ensures.ok.0 (ap is_ok c.in-Ok.is)) c.args.self.stage refl x is) c.outcome.ensures

pub returns : goal.returns
returns c = λ program log bytes read. broken_so program log c.args.self bytes read c.in-Err.line c.in-Err.ensures.err
