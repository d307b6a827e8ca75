use Rattle.refute_check.proofs.Cuts.{cuts-agree}
use Rattle.refute_check.proofs.text.cuts_agree.Goals as goal

pub returns : goal.returns
returns c = cuts-agree
