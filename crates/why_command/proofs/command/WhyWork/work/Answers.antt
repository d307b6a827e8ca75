use Rattle.std.proofs.Common.{Ok, subst}
use Rattle.why_command.specs.Causes.{IsExplained}
use Rattle.why_command.proofs.command.WhyWork.work.Goals as goal

pub returns-in-Ok : goal.returns-in-Ok
returns-in-Ok c =
    let both = c.args.bytes.now.0 in
    let verdict = c.in-Ok.verdict in
    subst (λ bytes. IsExplained both.0.items both.1.items bytes (Ok verdict)) c.deref-3.ensures.value
    (subst (λ log. IsExplained both.0.items log c.deref-3.result.now (Ok verdict)) c.deref-2.ensures.value
    (subst (λ program. IsExplained program c.deref-2.result.now c.deref-3.result.now (Ok verdict)) c.deref.ensures.value c.in-Ok.ensures.verdict))
