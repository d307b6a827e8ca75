use Rattle.refute_check.proofs.Wholes.{reads-agree}
use Rattle.refute_check.proofs.whole.reads_agree.Goals as goal

pub returns : goal.returns
returns c = reads-agree
