use Rattle.bit_signed.proofs.Meaning.{signed-mean}
use Rattle.bit_signed.proofs.signed_means.Goals as goal

pub returns : goal.returns
returns c = signed-mean
