use Rattle.std.proofs.Common.{◌∙◌, ap, map}
use Rattle.command_frame.specs.helpers.Failures.{plain_keep}
use Rattle.refutation_verdicts.proofs.Verdicts.{nothing_kept}
use Rattle.certificate_check.proofs.command.CheckCertificateCommand.keeps.Goals as goal

pub returns : goal.returns
returns c = ap (map plain_keep) c.new.ensures.items ∙ nothing_kept c.args._outcome.now
