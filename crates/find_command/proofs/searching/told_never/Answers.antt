use Rattle.std.proofs.Common.{◌∙◌, ap, map, refl}
use Rattle.certified_logs.specs.Written.{refuted_of}
use Rattle.certified_logs.specs.none_certificates.Texts.{certificate_text}
use Rattle.find_command.proofs.searching.told_never.Goals as goal

pub returns : goal.returns
returns c = (
  refl,
  c.in_ok-text.ensures
      ∙ ap (λ h. certificate_text (record { header = h; logs = map refuted_of c.args.refuted.now })) c.header_of-header.ensures,
)
