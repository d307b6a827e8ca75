use Rattle.bit_blast.proofs.Posed.{drafts-mean}
use Rattle.bit_blast.proofs.laws.drafts_mean.Goals as goal

pub returns : goal.returns
returns c nodes formula order loads draft h lawful keeps = drafts-mean nodes formula order loads h lawful draft keeps
