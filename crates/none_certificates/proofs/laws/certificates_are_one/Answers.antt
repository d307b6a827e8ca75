use Rattle.none_certificates.proofs.Wholes.{one-certificate}
use Rattle.none_certificates.proofs.laws.certificates_are_one.Goals as goal

pub returns : goal.returns
returns c = one-certificate
