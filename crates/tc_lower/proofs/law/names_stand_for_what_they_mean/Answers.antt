use Rattle.tc_lower.proofs.Meanings.{names_agree}
use Rattle.tc_lower.proofs.law.names_stand_for_what_they_mean.Goals as goal

pub returns : goal.returns
returns c = names_agree
