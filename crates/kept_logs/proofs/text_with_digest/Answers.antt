use Rattle.std.proofs.Common.{◌∙◌, subst}
use Rattle.path_log.specs.Texts.{IsLog}
use Rattle.kept_logs.specs.Digests.{with_digest}
use Rattle.kept_logs.proofs.text_with_digest.Goals as goal

pub returns-clause-log : goal.returns-clause-log
returns-clause-log c =
    let log = with_digest c.args.program.now c.args.log.log in
    subst (λ bytes. IsLog bytes log) c.deref.ensures.value
    (c.tell_reading.ensures log c.in_ok-text.ensures.has_text (c.deref.ensures.value ∙ c.in_ok-text.ensures.text))
